use Rattle.std.proofs.Common.{◌≡◌, ℕ, Bool, List, [], ◌∷◌, map, refl, ap, sym, ◌∙◌}
use Rattle.std.specs.Prelude.{◌||◌}
use Rattle.std.specs.List.{list_any}
use Rattle.gixp_capabilities.specs.Capabilities.{is_text}
use Rattle.gixp_response.specs.Features.{feature_name}
use Rattle.gixp_response.proofs.fetch.response.answer.has_feature.Goals as goal

any_of_map : {X Y : Type 0} (p : Y → Bool) (f : X → Y) (xs : List X) → list_any p (map f xs) ≡ list_any (λ x. p (f x)) xs
any_of_map p f [] = refl
any_of_map p f (x ∷ xs) = ap (λ b. p (f x) || b) (any_of_map p f xs)

pub returns : goal.returns
returns c = c.any_named.ensures ∙ sym (any_of_map (λ (n : List ℕ). is_text n c.args.name.now) feature_name c.args.features.now)
