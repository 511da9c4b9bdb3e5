use Rattle.std.proofs.Common.{sym, ap}
use Rattle.std.specs.Prelude.{is_some}
use Rattle.std.specs.FinMap.{get-empty}
use Rattle.gixp_hash.specs.ObjectId.{id_cmp}
use Rattle.gixp_graph.proofs.empty.NoObjectsObjects.exists.Goals as goal

pub returns : goal.returns
returns c = sym (ap is_some (get-empty id_cmp _))
