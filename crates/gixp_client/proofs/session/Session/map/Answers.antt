use Rattle.std.proofs.Common.{ap, inr, refl, ◌∙◌}
use Rattle.gixp_client.specs.IdSpecs.{are_ids}
use Rattle.gixp_client.proofs.MapLemmas.{state_after_map_same, unmapped_by, whole_by, named_by_list, sees_some, mapped_calls}
use Rattle.gixp_client.proofs.RunLemmas.{as_obtained}
use Rattle.gixp_client.proofs.SpecLemmas.{sees_by}
use Rattle.gixp_client.proofs.session.Session.map.Goals as goal

pub returns-in-Ok-clause-mapped : goal.returns-in-Ok-clause-mapped
returns-in-Ok-clause-mapped g c = record {
  context = c.in_ok-context.context;
  asked = c.in_ok-context.ensures;
  seen = c.seen_refs.result;
  sees = sees_by _ _ _ _ _ c.seen_refs.ensures (c.are_ids.ensures ∙ ap are_ids c.in_ok-context.ensures) c.take-refs.ensures.value;
  obtains = as_obtained _ _ _ _ _ _ _ _ _ _ _ c.table.ensures c.in_ok-name.ensures
      c.in-Ok.ensures.made.0 c.obtain-made.ensures.map;
}

pub returns-in-Ok-clause-whole : goal.returns-in-Ok-clause-whole
returns-in-Ok-clause-whole g c =
    whole_by _ _ _ _ c.in-Ok.ensures.made.1 c.are_whole.ensures
    (sees_some _ _ _ _ _ (sees_by _ _ _ _ _ c.seen_refs.ensures refl c.take-refs.ensures.value) c.has_refs-is_here.ensures
    (c.are_ids.ensures ∙ ap are_ids c.in_ok-context.ensures))

pub returns-in-Ok-clause-names : goal.returns-in-Ok-clause-names
returns-in-Ok-clause-names g c =
    named_by_list _ _ _ _ c.in-Ok.ensures.made.2 c.is_lossy.ensures
    (sees_some _ _ _ _ _ (sees_by _ _ _ _ _ c.seen_refs.ensures refl c.take-refs.ensures.value) c.has_refs-is_here.ensures
    (c.are_ids.ensures ∙ ap are_ids c.in_ok-context.ensures))

pub returns-in-Ok-clause-report : goal.returns-in-Ok-clause-report
returns-in-Ok-clause-report g c =
    mapped_calls g.P.Progress.reported _ _ _ _ _ _ _ c.obtain-made.ensures.reported c.has_refs-is_here.ensures
    (sees_some _ _ _ _ _ (sees_by _ _ _ _ _ c.seen_refs.ensures refl c.take-refs.ensures.value) c.has_refs-is_here.ensures
    (c.are_ids.ensures ∙ ap are_ids c.in_ok-context.ensures)) c.in-Ok.ensures.made.0

pub returns-in-Err-clause-refused : goal.returns-in-Err-clause-refused
returns-in-Err-clause-refused g c =
    let seen = sees_by _ _ _ _ _ c.seen_refs.ensures (c.are_ids.ensures ∙ ap are_ids c.in_ok-context.ensures) c.take-refs.ensures.value in
    let is_here = sees_some _ _ _ _ _ seen c.has_refs-is_here.ensures refl in inr (
      c.obtain-made.result,
      record {
        context = c.in_ok-context.context;
        asked = c.in_ok-context.ensures;
        seen = c.seen_refs.result;
        sees = seen;
        obtains = as_obtained _ _ _ _ _ _ _ _ _ _ _ c.table.ensures c.in_ok-name.ensures
            refl c.obtain-made.ensures.map;
      },
      unmapped_by _ _ _ _ _ _ _ _ c.in-Err.ensures.whole c.are_whole.ensures c.is_lossy.ensures is_here,
      state_after_map_same _ _ _ _ _ _ c.state_after_map-self.ensures is_here refl,
    )
