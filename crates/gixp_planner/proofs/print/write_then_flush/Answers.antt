use Rattle.std.proofs.Common.{refl}
use Rattle.gixp_planner.specs.Written.{flushed, unwritten}
use Rattle.gixp_planner.proofs.print.write_then_flush.Goals as goal

pub returns-in-Ok : goal.returns-in-Ok
returns-in-Ok g c =
    flushed c.write_text.new.writer c.flush.result c.in-Ok.ensures
    (record { shown = _; shows = refl; left = _; met = c.flush.ensures; leaves = refl }) c.flush_result.ensures.answer

pub returns-in-Err : goal.returns-in-Err
returns-in-Err g c = unwritten c.in-Err.e refl c.in-Err.ensures.0 c.in-Err.ensures.1
