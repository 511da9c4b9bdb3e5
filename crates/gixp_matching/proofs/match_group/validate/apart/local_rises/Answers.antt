use Rattle.std.proofs.Common.{[], ◌∷◌, ◌∙◌, ap, sym}
use Rattle.std.specs.Prelude.{option_to_list}
use Rattle.std.specs.Option.{option_map}
use Rattle.gixp_matching.specs.MatchGroup.{key_bytes}
use Rattle.gixp_matching.proofs.match_group.validate.apart.local_rises.Goals as goal

pub returns-in-Some : goal.returns-in-Some
returns-in-Some g c = λ t keys h. (
  c.in-Some.name ∷ [],
  ap (λ o. option_to_list (option_map key_bytes o)) (sym c.in-Some.is) ∙ ap (λ p. option_to_list p.1) c.key.ensures,
  c.rises.ensures t keys h,
)
