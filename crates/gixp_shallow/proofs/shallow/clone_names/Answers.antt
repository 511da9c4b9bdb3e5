use Rattle.std.proofs.Common.{◌≡◌, List, [], ◌∷◌, map, refl}
use Rattle.std.specs.List.{AllZip}
use Rattle.gixp_refspec.specs.declared.name.PartialName.{PartialName}
use Rattle.gixp_refspec.specs.PartialName.{name_bytes}
use Rattle.gixp_shallow.proofs.shallow.clone_names.Goals as goal

same_bytes : (xs ys : List PartialName) → AllZip (λ s t. name_bytes t ≡ name_bytes s) xs ys → map name_bytes ys ≡ map name_bytes xs
same_bytes [] [] h = refl
same_bytes [] (y ∷ ys) h = absurd h
same_bytes (x ∷ xs) [] h = absurd h
same_bytes (x ∷ xs) (y ∷ ys) h = rw (h.0, same_bytes xs ys h.1) refl

pub returns : goal.returns
returns c = same_bytes c.args.names.now.items _ c.in_ok-copy.ensures.cases.0
