use Rattle.std.proofs.Common.{◌≡◌, ◌∙◌, ℕ, List, map, ap, subst}
use Rattle.std.specs.List.{AllByRecursion}
use Rattle.gixp_refs.specs.Ref.{ref_value}
use Rattle.gixp_matching.specs.MatchGroup.{group_specs, names}
use Rattle.gixp_matching.specs.Places.{repeated, place_of, FollowsFromPlace}
use Rattle.gixp_refmap.specs.Mapping.{value_names}
use Rattle.gixp_refmap.proofs.UnplacedLemmas.{places_are_there}
use Rattle.gixp_refmap.proofs.refmap.make.places_of.Goals as goal

pub returns-clause-there : goal.returns-clause-there
returns-clause-there c =
    let specs = group_specs c.args.group.now in
    let wanted = value_names (map ref_value c.args.refs.now) in
    let same : names c.deref.result.now ≡ wanted = ap names c.deref.ensures.value ∙ c.in_ok-items.ensures.names in
    let P : List (List ℕ) → Type 0 = λ ns. AllByRecursion (FollowsFromPlace specs ns) (repeated specs ns) in
    places_are_there specs c.args.refs.now c.in_ok-places.places.items (repeated specs wanted)
    (c.in_ok-places.ensures.places ∙ ap (λ ns. map place_of (repeated specs ns)) same) (subst P same c.in_ok-places.ensures.reported)
