use Rattle.std.proofs.Common.{◌++◌}
use Rattle.gixp_planner.specs.Recorded.{AreBodies}
use Rattle.gixp_planner.proofs.recording.bodies_of.Given as goal

abbrev pub invariant-loop-number : goal.invariant-loop-number
invariant-loop-number g l = goal.F-IsAlwaysCallable g l.file × ((rest : _) (last : _)
    → AreBodies (goal.F-post g l.file) l.number rest last → AreBodies (goal.F-post g l.fn.file) 0 (l.bodies.items ++ rest) last)
