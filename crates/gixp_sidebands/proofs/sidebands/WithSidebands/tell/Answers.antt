use native.Mathlib.Omega.{arith}
use Rattle.std.proofs.lemmas.Grind.{common_steps}
use Rattle.gixp_sidebands.proofs.sidebands.WithSidebands.tell.Goals as goal

pub returns-then-is_interrupted-clause-reports : goal.returns-then-is_interrupted-clause-reports
returns-then-is_interrupted-clause-reports g c = grind (arith, common_steps)

pub returns-clause-reports : goal.returns-clause-reports
returns-clause-reports g c = grind (arith, common_steps)
