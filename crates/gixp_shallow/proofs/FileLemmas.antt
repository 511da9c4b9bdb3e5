-- A boundary in a file, and its lock.
use Rattle.std.proofs.Common.{◌≡◌, ℕ, Bool, true, false, List, sym, ◌∙◌, subst}
use Rattle.gixp_hash.specs.declared.object_id.ObjectId.{ObjectId}
use Rattle.gixp_shallow.specs.declared.store.file.ShallowFile.{ShallowFile}
use Rattle.gixp_shallow.specs.declared.store.ShallowError.{ShallowError}
use Rattle.gixp_shallow.specs.declared.store.ShallowError.TheVariants.{Locked}
use Rattle.gixp_shallow.specs.ShallowText.{IdTextFails}
use Rattle.gixp_shallow.specs.Store.{to_lock, to_read, to_write, IsStoreRefusal}
use Rattle.gixp_shallow.specs.ShallowFile.{IsKept, HoldsLock, RefusesInFile, RefusesAlone, is_left, is_left_of}

-- a text that can't be read is not a `Locked` error
pub not_locked : (text : List ℕ) (e : ShallowError) → IdTextFails text e → e ≡ Locked → ⊥
not_locked text e h x = subst (IdTextFails text) x h

kept_through : {F : Type 0} (a b c : ShallowFile F) → IsKept a b → IsKept b c → IsKept a c
kept_through a b c h k = record { path = k.path ∙ h.path; lock_path = k.lock_path ∙ h.lock_path }

module _ {F : Type 0} (old new : ShallowFile F) (e : ShallowError) where
  -- an error of the system, in the call that made it
  pub lock_refused : RefusesInFile to_read old e new → RefusesInFile to_lock old e new
  lock_refused h = record { held = h.held; kept = h.kept; counted = h.counted; uncounted = h.uncounted; locked = λ _. tt }

  pub write_refused : RefusesInFile to_read old e new → RefusesInFile to_write old e new
  write_refused h = record { held = h.held; kept = h.kept; counted = h.counted; uncounted = h.uncounted; locked = λ x. absurd (h.locked x) }

  pub write_unlocked : old.held ≡ false → RefusesInFile to_lock old e new → RefusesInFile to_write old e new
  write_unlocked f h = record { held = h.held; kept = h.kept; counted = h.counted; uncounted = h.uncounted; locked = λ _. f }

module _ {F : Type 0} (old a new : ShallowFile F) where
  pub alone_refused : (e : ShallowError) → RefusesInFile to_read old e a → HoldsLock false a new → RefusesAlone old e new
  alone_refused e h t = record {
    held = t.held;
    kept = kept_through old a new h.kept t.kept;
    counted = subst (λ n. IsStoreRefusal old.failures n e) (sym t.failures) h.counted;
    uncounted = λ x. t.failures ∙ h.uncounted x;
  }

  pub alone_written : (left : Bool) → HoldsLock left old a → HoldsLock false a new → HoldsLock false old new
  alone_written left h t = record { held = t.held; kept = kept_through old a new h.kept t.kept; failures = t.failures ∙ h.failures }

  pub write_alone_refused : (e : ShallowError) → old.held ≡ false → HoldsLock true old a → RefusesAlone a e new
      → RefusesInFile to_write old e new
  write_alone_refused e f t h = record {
    held = h.held ∙ sym f;
    kept = kept_through old a new t.kept h.kept;
    counted = subst (λ n. IsStoreRefusal n new.failures e) t.failures h.counted;
    uncounted = λ x. h.uncounted x ∙ t.failures;
    locked = λ _. f;
  }

  pub write_alone_written : (ids : List ObjectId) → old.held ≡ false → HoldsLock true old a → HoldsLock false a new
      → HoldsLock (is_left_of old.held ids) old new
  write_alone_written ids f t h = subst (λ x. HoldsLock (is_left_of x ids) old new) (sym f)
      (record { held = h.held; kept = kept_through old a new t.kept h.kept; failures = h.failures ∙ t.failures })

  pub write_had : (ids : List ObjectId) → old.held ≡ true → HoldsLock (is_left ids) old new → HoldsLock (is_left_of old.held ids) old new
  write_had ids f h = subst (λ x. HoldsLock (is_left_of x ids) old new) (sym f) h
