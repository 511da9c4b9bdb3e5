-- The calls of a store of the shallow boundary.
use Rattle.std.specs.Prelude.{◌≡◌, ◌⊎◌, ℕ, List}
use Rattle.gixp_hash.specs.declared.object_id.ObjectId.{ObjectId}
use Rattle.gixp_hash.specs.Failures.{HasRisen}
use Rattle.gixp_shallow.specs.declared.store.ShallowError.{ShallowError}
use Rattle.gixp_shallow.specs.declared.store.ShallowError.TheVariants.{Memory}

-- a call of a store that may fail
pub data StoreCall : Type 0 where
  to_lock : StoreCall
  to_read : StoreCall
  to_write : StoreCall

-- the effect of a failed call: the call, the store before it, the error, and the store after it
abbrev pub StoreRefusals : Type 0 → Type 1
StoreRefusals S = StoreCall → S → ShallowError → S → Type 0

-- the effects of the calls of a store, and the count of its failures
pub record StoreCalls (S : Type 0) : Type 1 where
  pub failures : StoreRefusals S
  pub count : S → ℕ
  pub locks : S → S → Type 0
  pub reads : S → List ObjectId → S → Type 0
  pub writes : S → List ObjectId → S → Type 0
  pub releases : S → S → Type 0

-- a call failed, and its failure was counted
abbrev pub HasFailed : ℕ → ℕ → Type 0
HasFailed old new = HasRisen old new

-- why a call failed: an allocation failed, or the failure was counted
abbrev pub IsStoreRefusal : ℕ → ℕ → ShallowError → Type 0
IsStoreRefusal old new e = (e ≡ Memory) ⊎ HasRisen old new
