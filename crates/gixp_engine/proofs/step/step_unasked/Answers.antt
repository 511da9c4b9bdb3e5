use Rattle.std.proofs.Common.{refl, sym, subst, arith}
use Rattle.gixp_engine.specs.NextStep.{StepsTo, overfull, failed}
use Rattle.gixp_engine.proofs.step.step_unasked.Goals as goal

pub returns-then-requests-ends : goal.returns-then-requests-ends
returns-then-requests-ends c = λ sent e. overfull c.in-Ok.received (omega arith) c.in-Ok.is refl

pub returns-else-requests-ends : goal.returns-else-requests-ends
returns-else-requests-ends c = λ sent e. subst (λ x. StepsTo c.args.bytes.now c.args.ends.now sent x c.step_after.result) (sym c.in-Ok.is)
    (c.step_after.ensures sent (omega arith))

pub returns-in-Err : goal.returns-in-Err
returns-in-Err c = λ sent e. failed c.in-Err.e (omega arith) c.in-Err.is refl
