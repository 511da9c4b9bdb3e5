use Rattle.std.proofs.Common.{◌≡◌, map}
use Rattle.gixp_memory.specs.Repository.{named_id_of}
use Rattle.gixp_client.specs.Changes.{listed_value}
use Rattle.gixp_client.proofs.changes.StoredRefsListedRefs.list.Given as goal

abbrev pub invariant-loop-name : goal.invariant-loop-name
invariant-loop-name l = map listed_value l.refs.items ≡ map named_id_of l.yielded
