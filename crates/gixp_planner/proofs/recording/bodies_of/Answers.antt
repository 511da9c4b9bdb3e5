use Rattle.std.proofs.Common.{inl}
use Rattle.gixp_planner.proofs.RecordedLemmas.{bodies-last}
use Rattle.gixp_planner.proofs.recording.bodies_of.Goals as goal

pub returns-in-Ok-None : goal.returns-in-Ok-None
returns-in-Ok-None g c = bodies-last _ c.loop-number.number c.loop-number.bodies.items _ c.loop-number.invariant.1
    (rw c.in-Ok-None.field-0-is at c.in-Ok-None.ensures)

pub returns-in-Err : goal.returns-in-Err
returns-in-Err g c = inl (
  c.loop-number.bodies.items,
  bodies-last _ c.loop-number.number c.loop-number.bodies.items _ c.loop-number.invariant.1 c.in-Err.ensures,
)
