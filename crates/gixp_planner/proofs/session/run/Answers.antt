use Rattle.std.proofs.Common.{◌∙◌, ap, Err, None, Some, refl}
use Rattle.gixp_planner.specs.Refusal.{refusal}
use Rattle.gixp_planner.specs.Text.{ended_of}
use Rattle.gixp_planner.specs.Printed.{mapped_text}
use Rattle.gixp_planner.specs.Session.{ungreeted, unmapped}
use Rattle.gixp_planner.proofs.SessionLemmas.{ran}
use Rattle.gixp_planner.proofs.session.run.Goals as goal

pub returns-in-Err : goal.returns-in-Err
returns-in-Err g c = record {
  mapped = None;
  runs = ungreeted c.in-Err.e c.in-Err.ensures refl (ap ended_of c.unmapped.ensures.ended
      ∙ ap Err (c.new.ensures ∙ ap (refusal _) c.handshake_variant.ensures));
  shown = ap mapped_text c.unmapped.ensures.mapped;
}

pub returns-in-Err-map_refs : goal.returns-in-Err-map_refs
returns-in-Err-map_refs g c = record {
  mapped = None;
  runs = unmapped c.in-Ok.handshake _ c.in-Err-map_refs.e c.in-Ok.ensures c.in-Err-map_refs.ensures.map refl
      (ap ended_of c.unmapped-in-Err-map_refs.ensures.ended
      ∙ ap Err (c.new-in-Err-map_refs.ensures ∙ ap (refusal _) c.refs_variant.ensures));
  shown = ap mapped_text c.unmapped-in-Err-map_refs.ensures.mapped;
}

pub returns : goal.returns
returns g c = record {
  mapped = Some c.in-Ok-map_refs.map;
  runs = ran _ _ _ _ _ _ _ c.in-Ok.handshake _ c.in-Ok-map_refs.map c.fetch_mapped-printed.result.1 _ _ c.in-Ok.ensures
      c.in-Ok-map_refs.ensures.map c.in-Ok-map_refs.ensures.handshake c.fetch_mapped-printed.ensures.1 refl c.ended.ensures;
  shown = c.fetch_mapped-printed.ensures.0;
}
