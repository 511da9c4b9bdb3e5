use Rattle.std.proofs.Common.{sym}
use Rattle.std.proofs.lemmas.List.Sorted.{list_any-IsPermutation}
use Rattle.std.specs.Ordering.{eq_by_cmp}
use Rattle.gixp_hash.specs.ObjectId.{id_cmp}
use Rattle.gixp_updates.specs.declared.refs.heap.Pending.{Pending}
use Rattle.gixp_updates.proofs.refs.heap.Heap.push.Goals as goal

pub returns-in-Ok-clause-waits : goal.returns-in-Ok-clause-waits
returns-in-Ok-clause-waits c q = sym (list_any-IsPermutation (λ (p : Pending). eq_by_cmp id_cmp q p.id) _ _ c.in-Ok.ensures.permutation)
