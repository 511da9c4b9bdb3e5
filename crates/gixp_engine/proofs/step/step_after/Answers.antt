use Rattle.std.proofs.Common.{Ok, ap, refl, subst}
use Rattle.gixp_records.specs.Place.{RefusedFrom}
use Rattle.gixp_engine.specs.NextStep.{BeginsPack, takes, packless}
use Rattle.gixp_engine.proofs.step.step_after.Goals as goal

pub returns-in-Ok : goal.returns-in-Ok
returns-in-Ok c = λ sent e. takes c.in-Some.field-0 c.in-Ok.place e (ap Ok c.in-Some.is)
    (subst (λ s. BeginsPack c.in-Some.field-0.version c.args.bytes.now s c.in-Ok.place) c.start_of_last.ensures c.in-Ok.ensures) refl

pub returns-in-Err : goal.returns-in-Err
returns-in-Err c = λ sent e. packless c.in-Some.field-0 c.in-Err.e e (ap Ok c.in-Some.is)
    (subst (λ s. RefusedFrom c.args.bytes.now s c.in-Err.e) c.start_of_last.ensures c.in-Err.ensures) refl
