-- The mappings from all places are all mappings.
use Rattle.std.proofs.Common.{◌≡◌, ◌∙◌, ℕ, List, Vec, map, ap, subst}
use Rattle.std.specs.List.{AllByRecursion, AllZip}
use Rattle.std.specs.declared.alloc.Global.{Global}
use Rattle.std.proofs.lemmas.Result.{IfOk-weaker}
use Rattle.gixp_refs.specs.Ref.{ref_value}
use Rattle.gixp_matching.specs.MatchGroup.{group_specs}
use Rattle.gixp_matching.specs.Places.{repeated, place_of, FollowsFromPlace}
use Rattle.gixp_refmap.specs.declared.refmap.mapping.Mapping.{Mapping}
use Rattle.gixp_refmap.specs.Mapping.{value_names}
use Rattle.gixp_refmap.specs.Made.{IsMade, IsUnplaced}
use Rattle.gixp_refmap.proofs.UnplacedLemmas.{unplaced_of_places}
use Rattle.gixp_refmap.proofs.refmap.make.made_of_places.Goals as goal

pub returns : goal.returns
returns c =
    let refs = map ref_value c.args.refs.items in
    let specs = group_specs c.args.group.now in
    let places = c.in_ok-places.places.items in
    let names = value_names refs in
    let lent : value_names (map ref_value c.deref.result.now) ≡ names = (
    ap (λ rs. value_names (map ref_value rs)) c.deref.ensures.value) in
    let P : List (List ℕ) → Type 0 = λ ns. AllByRecursion (FollowsFromPlace specs ns) (repeated specs ns) in
    let Made : Vec Mapping Global → Type 0 = λ made. AllZip (IsMade refs specs) places made.items in
    let All : Vec Mapping Global → Type 0 = λ made. AllZip (IsUnplaced refs) (repeated specs names) made.items in
    IfOk-weaker c.moved_or_copied.result Made All
    (λ made. unplaced_of_places specs refs places (repeated specs names) made.items
    (c.in_ok-places.ensures.places ∙ ap (λ ns. map place_of (repeated specs ns)) lent) (subst P lent c.in_ok-places.ensures.reported))
    c.moved_or_copied.ensures
