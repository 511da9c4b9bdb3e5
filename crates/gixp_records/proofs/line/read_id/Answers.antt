use Rattle.std.proofs.Common.{refl}
use Rattle.gixp_refs.specs.RefLine.{bad_id}
use Rattle.gixp_records.proofs.line.read_id.Goals as goal

pub returns-in-Err : goal.returns-in-Err
returns-in-Err c = (bad_id c.in-Err.field-0, c.in-Err.ensures, refl)
