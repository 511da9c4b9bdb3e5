-- The writes of a text: all of it, or a beginning where a write fails.
use Rattle.std.specs.Prelude.{ℕ, ◌≡◌, ◌++◌, ◌≤◌, List, length, take, Option, Result, Ok, Err}
use Rattle.std.specs.declared.io.Error.{Error as IoError}
use Rattle.std.specs.Io.KnownBytes.{Appends, Keeps}
use Rattle.gixp_planner.specs.declared.error.PlanError.{PlanError}
use Rattle.gixp_planner.specs.Refusal.{IsUnwritten, AnswersWrite}

-- some of a text was written, and the rest remains
pub record WritesPart (old new : Option (List ℕ)) (left text : List ℕ) : Type 0 where
  pub done : List ℕ
  pub written : Appends old new done
  pub whole : text ≡ done ++ left

-- a beginning of a text was written
abbrev pub WritesBeginning : Option (List ℕ) → Option (List ℕ) → List ℕ → Type 0
WritesBeginning old new text = (left : List ℕ) × WritesPart old new left text

-- this text was written; or a write failed after a beginning of it
abbrev pub WritesPlan : Option (List ℕ) → Option (List ℕ) → List ℕ → Result (Unit {0}) PlanError → Type 0
WritesPlan old new text (Ok x) = Appends old new text
WritesPlan old new text (Err e) = WritesBeginning old new text × IsUnwritten e

-- a text was written and then flushed, with the flush's result; or a write failed after a beginning of it
module _ {W : Type 0} (contents : W → Option (List ℕ)) (Flushes : W → Result (Unit {0}) IoError → W → Type 0) (text : List ℕ) where
  pub data EndsInFlush (old new : W) (r : Result (Unit {0}) PlanError) : Type 0 where
    flushed : (mid : W) (answer : Result (Unit {0}) IoError) → Appends (contents old) (contents mid) text → Flushes mid answer new
        → AnswersWrite answer r → EndsInFlush old new r
    unwritten : (e : PlanError) → r ≡ Err e → WritesBeginning (contents old) (contents new) text → IsUnwritten e → EndsInFlush old new r

-- some of a text was written, and the rest is pending; or a write failed after a beginning of it
abbrev pub HoldsRest : Option (List ℕ) → Option (List ℕ) → List ℕ → List ℕ → Result (Unit {0}) PlanError → Type 0
HoldsRest old new rest text (Ok x) = WritesPart old new rest text
HoldsRest old new rest text (Err e) = WritesBeginning old new text × IsUnwritten e

-- a write took so many bytes of a text, or failed and took none
abbrev pub WritesSome : Option (List ℕ) → Option (List ℕ) → List ℕ → Result ℕ PlanError → Type 0
WritesSome old new text (Ok n) = (n ≤ length text) × Appends old new (take n text)
WritesSome old new text (Err e) = Keeps old new × IsUnwritten e
