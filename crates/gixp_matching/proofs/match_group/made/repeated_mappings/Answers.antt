use Rattle.std.proofs.Common.{◌∙◌, ap, map}
use Rattle.std.proofs.lemmas.Result.{IfOk-weaker}
use Rattle.gixp_matching.specs.MatchGroup.{group_specs, names}
use Rattle.gixp_matching.specs.Places.{place_value, made_of, repeated}
use Rattle.gixp_matching.proofs.FollowLemmas.{remade_all}
use Rattle.gixp_matching.proofs.match_group.made.repeated_mappings.Goals as goal

pub returns : goal.returns
returns c =
    let specs = group_specs c.args.group.now in
    let names = names c.args.items.now in
    IfOk-weaker c.mappings_at.result _ _
    (λ made h. h ∙ ap (made_of specs names) (ap (map place_value) c.deref.ensures.value ∙ c.in_ok-places.ensures.places)
    ∙ remade_all specs names (repeated specs names) c.in_ok-places.ensures.reported)
    c.mappings_at.ensures
