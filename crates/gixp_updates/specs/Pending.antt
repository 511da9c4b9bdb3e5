-- The order of queued commits.
use Rattle.std.specs.Prelude.{ℤ}
use Rattle.std.specs.Ordering.{int_cmp, ordering_then}
use Rattle.std.specs.declared.cmp.Ordering.{Ordering}
use Rattle.gixp_hash.specs.declared.object_id.ObjectId.{ObjectId}
use Rattle.gixp_hash.specs.ObjectId.{id_cmp}
use Rattle.gixp_updates.specs.declared.refs.heap.Pending.{Pending}

-- which of two commits is taken later: the older one, and of two with the same time the one with the smaller id
abbrev pub pending_cmp : Pending → Pending → Ordering
pending_cmp a b = ordering_then (int_cmp a.time b.time) (id_cmp a.id b.id)

-- a commit with its time
abbrev pub pending_at : ℤ → ObjectId → Pending
pending_at time id = record { time = time; id = id }
