-- The order in which queued commits are taken.
use Rattle.std.specs.Prelude.{ℕ, ℤ}
use Rattle.std.specs.Ordering.{int_cmp, nat_cmp, ordering_then}
use Rattle.std.specs.declared.cmp.Ordering.{Ordering}
use Rattle.gixp_hash.specs.declared.object_id.ObjectId.{ObjectId}
use Rattle.gixp_hash.specs.ObjectId.{id_cmp}
use Rattle.gixp_negotiators.specs.declared.queue.Waiting.{Waiting}

-- which of two queued commits is taken later: the older one, and of two with the same time the one that was queued later
abbrev pub waiting_cmp : Waiting → Waiting → Ordering
waiting_cmp a b = ordering_then (int_cmp a.time b.time) (ordering_then (nat_cmp a.rank b.rank) (id_cmp a.id b.id))

-- a commit under a time and a rank
abbrev pub waiting_at : ℤ → ℕ → ObjectId → Waiting
waiting_at time rank id = record { time = time; rank = rank; id = id }
