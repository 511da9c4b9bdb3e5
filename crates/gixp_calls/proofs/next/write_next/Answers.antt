use Rattle.std.proofs.Common.{Ok, Err}
use Rattle.gixp_calls.proofs.next.write_next.Goals as goal

pub returns-in-Ok-clause-next : goal.returns-in-Ok-clause-next
returns-in-Ok-clause-next c = record { step = Ok c.in-Ok.found; steps = c.in-Ok.ensures; reports = c.tell_step.ensures.input_record }

pub returns-in-Err-clause-next : goal.returns-in-Err-clause-next
returns-in-Err-clause-next c = record { step = Err c.in-Err.e; steps = c.in-Err.ensures; reports = c.tell_refusal.ensures.input_record }
