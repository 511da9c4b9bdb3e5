-- Batch checks that fail.
use Rattle.std.specs.Prelude.{◌≡◌, ◌+◌, ◌-◌, ◌^◌, ℕ, zero, suc, ⊤, min, List, ◌∷◌, ◌++◌, length, flat_map, Option, Some, None}
use Rattle.std.specs.Io.KnownBytes.{Consumes}
use Rattle.gixp_hash.specs.declared.object_id.ObjectId.{ObjectId}
use Rattle.gixp_graph.specs.Object.{Objects}
use Rattle.gixp_memory.specs.Repository.{answer_to}
use Rattle.gixp_fetch_common.specs.AnswersIds.{with_answers}
use Rattle.gixp_fetch_common.specs.declared.batch_check.BatchCheckError.{BatchCheckError}
use Rattle.gixp_fetch_common.specs.declared.batch_check.BatchCheckError.TheVariants.{Ask, Answer, Line, Memory}

-- the count of lines after some more; it stops at the greatest number of 64 bits
abbrev pub line_number : ℕ → ℕ → ℕ
line_number lines zero = lines
line_number lines (suc more) = min (lines + suc more) (2 ^ 64 - 1)

-- a write of questions failed
abbrev pub SendFails : BatchCheckError → Type 0
SendFails (Ask kind) = ⊤
SendFails Memory = ⊤
SendFails _ = ⊥

-- a read of a line failed
abbrev pub LineFails : BatchCheckError → Type 0
LineFails (Answer kind) = ⊤
LineFails Memory = ⊤
LineFails _ = ⊥

-- the line of this number follows the answers to the first ids, and is no answer to the next id
pub record IsNoAnswer (lines : ℕ) (ids : List ObjectId) (old new : Objects) (before after : Option (List ℕ)) (number : ℕ) : Type 0 where
  pub done : List ObjectId
  pub id : ObjectId
  pub left : List ObjectId
  pub answers : List (List ℕ)
  pub line : List ℕ
  pub whole : ids ≡ done ++ id ∷ left
  pub reported : with_answers old done answers ≡ Some new
  pub read : Consumes before after (flat_map (λ (answer : List ℕ). answer) answers ++ line)
  pub none : answer_to id line ≡ None
  pub is_number : number ≡ line_number lines (length done + 1)

-- answers weren't read: a read failed, or a line is no answer
abbrev pub AnswersFail : ℕ → List ObjectId → Objects → Objects → Option (List ℕ) → Option (List ℕ) → BatchCheckError → Type 0
AnswersFail lines ids old new before after (Line number) = IsNoAnswer lines ids old new before after number
AnswersFail lines ids old new before after (Ask kind) = ⊥
AnswersFail lines ids old new before after (Answer kind) = ⊤
AnswersFail lines ids old new before after Memory = ⊤

-- the same, or a write of questions failed
abbrev pub CheckFails : ℕ → List ObjectId → Objects → Objects → Option (List ℕ) → Option (List ℕ) → BatchCheckError → Type 0
CheckFails lines ids old new before after (Line number) = IsNoAnswer lines ids old new before after number
CheckFails lines ids old new before after _ = ⊤
