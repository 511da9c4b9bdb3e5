use Rattle.std.proofs.Common.{◌∙◌, length, map, ap, subst, List}
use Rattle.std.specs.List.{AllZip}
use Rattle.gixp_refs.specs.Ref.{ref_value}
use Rattle.gixp_matching.specs.declared.match_group.Place.{Place}
use Rattle.gixp_matching.specs.MatchGroup.{group_specs, values}
use Rattle.gixp_refmap.specs.Mapping.{joined_specs, Maps}
use Rattle.gixp_refmap.specs.Made.{IsMade}
use Rattle.gixp_refmap.proofs.AllLemmas.{maps_all, answer_is_there}
use Rattle.gixp_refmap.proofs.UnplacedLemmas.{maps_of_places}
use Rattle.gixp_refmap.proofs.refmap.make.find_mappings.Goals as goal

pub returns : goal.returns
returns c =
    let refs = map ref_value c.args.refs.now in
    let count = length c.args.explicit.now in
    let specs = joined_specs c.args.explicit.now c.args.extra.now in
    let known = group_specs c.from_fetch_specs-group.result in
    let reported = values c.deref-3.result.now in
    let P : List Place → Type 0 = λ ps. AllZip (IsMade refs known) ps c.in_ok-made.made.items in
    let h : Maps specs count refs c.finished.result = (
    maps_of_places specs known reported count refs c.in_ok-places.places.items c.in_ok-made.made.items c.finished.result
    (c.from_fetch_specs-group.ensures ∙ ap values c.deref.ensures.value ∙ c.in_ok-specs.ensures)
    (ap values c.deref-3.ensures.value ∙ c.in_ok-specs.ensures) c.in_ok-places.ensures.places c.in_ok-places.ensures.reported
    (subst P c.deref-2.ensures.value c.in_ok-made.ensures) c.finished.ensures) in
    record {
      maps = h;
      filtered = maps_all c.filtering_keeps_answers.ensures c.mappings_have_origins.ensures specs count refs c.finished.result h;
      found = answer_is_there c.mappings_have_origins.ensures c.args.explicit.now c.args.extra.now refs c.finished.result h;
    }
