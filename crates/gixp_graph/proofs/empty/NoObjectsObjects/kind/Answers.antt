use Rattle.std.proofs.Common.{sym, ap}
use Rattle.std.specs.Prelude.{option_and_then}
use Rattle.std.specs.FinMap.{get-empty}
use Rattle.gixp_hash.specs.ObjectId.{id_cmp}
use Rattle.gixp_graph.specs.Object.{Object}
use Rattle.gixp_graph.proofs.empty.NoObjectsObjects.kind.Goals as goal

pub returns : goal.returns
returns c = sym (ap (option_and_then (λ (o : Object). o.kind)) (get-empty id_cmp _))
