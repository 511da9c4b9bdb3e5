-- A boundary in a file. The definitions say nothing about the contents of files.
use Rattle.std.specs.Prelude.{◌≡◌, ⊤, Bool, true, false, List, [], ◌∷◌}
use Rattle.gixp_hash.specs.declared.object_id.ObjectId.{ObjectId}
use Rattle.gixp_shallow.specs.declared.store.file.ShallowFile.{ShallowFile}
use Rattle.gixp_shallow.specs.declared.store.ShallowError.{ShallowError}
use Rattle.gixp_shallow.specs.declared.store.ShallowError.TheVariants.{Locked, Memory}
use Rattle.gixp_shallow.specs.Store.{StoreCall, to_lock, to_read, to_write, IsStoreRefusal}

-- the paths of the file and of its lock are unchanged
pub record IsKept {F : Type 0} (old new : ShallowFile F) : Type 0 where
  pub path : new.path ≡ old.path
  pub lock_path : new.lock_path ≡ old.lock_path

-- whether the store holds the lock now; no failure was counted
pub record HoldsLock {F : Type 0} (had : Bool) (old new : ShallowFile F) : Type 0 where
  pub held : new.held ≡ had
  pub kept : IsKept old new
  pub failures : new.failures ≡ old.failures

-- whether the lock file still exists after this boundary was written: it became the file, unless no id is left
abbrev pub is_left : List ObjectId → Bool
is_left [] = true
is_left (id ∷ ids) = false

abbrev pub is_left_of : Bool → List ObjectId → Bool
is_left_of true ids = is_left ids
is_left_of false ids = false

-- the calls that may fail with `Locked`: `lock`, and `write` without the lock
abbrev pub MayBeLocked : StoreCall → Bool → Type 0
MayBeLocked to_lock held = ⊤
MayBeLocked to_read held = ⊥
MayBeLocked to_write held = held ≡ false

-- a failed call leaves the lock as it was; the failure is counted, unless an allocation failed
pub record RefusesInFile {F : Type 0} (call : StoreCall) (old : ShallowFile F) (e : ShallowError) (new : ShallowFile F) : Type 0 where
  pub held : new.held ≡ old.held
  pub kept : IsKept old new
  pub counted : IsStoreRefusal old.failures new.failures e
  pub uncounted : e ≡ Memory → new.failures ≡ old.failures
  pub locked : e ≡ Locked → MayBeLocked call old.held

-- a failed write that released the lock
pub record RefusesAlone {F : Type 0} (old : ShallowFile F) (e : ShallowError) (new : ShallowFile F) : Type 0 where
  pub held : new.held ≡ false
  pub kept : IsKept old new
  pub counted : IsStoreRefusal old.failures new.failures e
  pub uncounted : e ≡ Memory → new.failures ≡ old.failures
