use Rattle.std.proofs.Common.{◌∙◌, length, map, ap}
use Rattle.gixp_refs.specs.Ref.{ref_value}
use Rattle.gixp_matching.specs.MatchGroup.{group_specs, values}
use Rattle.gixp_refmap.specs.Mapping.{joined_specs, Maps}
use Rattle.gixp_refmap.proofs.AllLemmas.{maps_all, answer_is_there}
use Rattle.gixp_refmap.proofs.UnplacedLemmas.{maps_of_unplaced}
use Rattle.gixp_refmap.proofs.refmap.make.move_mappings.Goals as goal

pub returns : goal.returns
returns c =
    let refs = map ref_value c.args.refs.items in
    let count = length c.args.explicit.now in
    let specs = joined_specs c.args.explicit.now c.args.extra.now in
    let h : Maps specs count refs c.finished.result = (
    maps_of_unplaced specs (group_specs c.from_fetch_specs-group.result) (values c.deref-2.result.now) count refs
    c.in_ok-made.made.items c.finished.result
    (c.from_fetch_specs-group.ensures ∙ ap values c.deref.ensures.value ∙ c.in_ok-specs.ensures)
    (ap values c.deref-2.ensures.value ∙ c.in_ok-specs.ensures) c.in_ok-made.ensures c.finished.ensures) in
    record {
      maps = h;
      filtered = maps_all c.filtering_keeps_answers.ensures c.mappings_have_origins.ensures specs count refs c.finished.result h;
      found = answer_is_there c.mappings_have_origins.ensures c.args.explicit.now c.args.extra.now refs c.finished.result h;
    }
