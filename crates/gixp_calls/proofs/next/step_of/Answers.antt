use Rattle.std.proofs.Common.{refl}
use Rattle.gixp_calls.specs.NextExport.{unread, read}
use Rattle.gixp_calls.proofs.next.step_of.Goals as goal

pub returns-in-Ok : goal.returns-in-Ok
returns-in-Ok c = read c.in-Ok.input c.in-Ok.ensures c.next_step.ensures

pub returns-in-Err : goal.returns-in-Err
returns-in-Err c = unread c.in-Err.e c.in-Err.ensures refl
