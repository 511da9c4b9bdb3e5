-- A boundary in memory.
use Rattle.std.proofs.Common.{inl, inr}
use Rattle.std.specs.Prelude.{◌≡◌, true}
use Rattle.gixp_shallow.specs.declared.store.memory.ShallowMemory.{ShallowMemory}
use Rattle.gixp_shallow.specs.declared.store.ShallowError.{ShallowError}
use Rattle.gixp_shallow.specs.declared.store.ShallowError.TheVariants.{Locked, Memory}
use Rattle.gixp_shallow.specs.Store.{StoreCall, to_lock, to_read, to_write, HasFailed, IsStoreRefusal}

-- a failed call leaves the boundary and the lock; `lock` fails where it is locked, and counts the failure; the other
-- calls fail only for an allocation failure
abbrev pub RefusesInMemory : StoreCall → ShallowMemory → ShallowError → ShallowMemory → Type 0
RefusesInMemory to_lock s e t = (s.locked ≡ true) × (e ≡ Locked) × (t ≡ record s { failures = t.failures })
    × HasFailed s.failures t.failures
RefusesInMemory to_read s e t = (e ≡ Memory) × (t ≡ s)
RefusesInMemory to_write s e t = (e ≡ Memory) × (t ≡ s)

-- so each failure is counted, unless an allocation failed
pub counted_in_memory : (call : StoreCall) (s : ShallowMemory) (e : ShallowError) (t : ShallowMemory) → RefusesInMemory call s e t
    → IsStoreRefusal s.failures t.failures e
counted_in_memory to_lock s e t h = inr h.3
counted_in_memory to_read s e t h = inl h.0
counted_in_memory to_write s e t h = inl h.0
