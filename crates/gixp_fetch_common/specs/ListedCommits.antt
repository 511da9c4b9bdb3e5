-- A negotiator that offers the commits of a text, in its order.
use Rattle.std.specs.Prelude.{◌≡◌, ◌+◌, ◌-◌, ◌^◌, ◌≤◌, ◌⊎◌, ℕ, suc, length, List, [], ◌∷◌, ◌++◌, Option, Some, None, true, false, All, IfSome, slice_get, option_and_then}
use Rattle.std.specs.BTreeSet.{BTreeSet, contains}
use Rattle.std.specs.Io.BufRead.{strip_last}
use Rattle.gixp_hash.specs.declared.object_id.ObjectId.{ObjectId}
use Rattle.gixp_hash.specs.ObjectId.{id_cmp}
use Rattle.gixp_graph.specs.declared.negotiator.NegotiatorError.{NegotiatorError}
use Rattle.gixp_graph.specs.declared.negotiator.NegotiatorError.TheVariants.{Lookup, Memory as NoMemory}
use Rattle.gixp_graph.specs.declared.objects.ObjectError.TheVariants.{Corrupt, Io}
use Rattle.gixp_utils.specs.Lines.{text_lines, line_words}
use Rattle.gixp_memory.specs.Text.{after_lines}
use Rattle.gixp_memory.specs.Repository.{named_id, commit_of_words, commit_line}
use Rattle.gixp_fetch_common.specs.declared.listed_commits.Refusal.{Refusal}
use Rattle.gixp_fetch_common.specs.declared.listed_commits.Refusal.TheVariants.{Read, Line}
use Rattle.gixp_fetch_common.specs.declared.listed_commits.CommitText.{CommitText}
use Rattle.gixp_fetch_common.specs.declared.known_commits.KnownCommits.{KnownCommits}
use Rattle.gixp_fetch_common.specs.KnownCommits.{parents_of, AreAwaitedOrKnown, AwaitsNone, AwaitsUnknown, LosesNone}
use Rattle.gixp_fetch_common.specs.SharedCommits.{IsSharedWhole}

-- ---- lines

-- the id of a line of `git rev-list --timestamp --parents`: its second word
abbrev pub id_in : List ℕ → Option ObjectId
id_in line = option_and_then named_id (slice_get (line_words line) 1)

-- a line, with its end or without, is no commit
abbrev pub IsNoCommit : List ℕ → Type 0
IsNoCommit line = commit_of_words (line_words (strip_last 10 line)) ≡ None

-- the first lines of a text were read, and the others are left
abbrev pub ReadsTextLines : (before : Option (List ℕ)) → List (List ℕ) → (after : Option (List ℕ)) → Type 0
ReadsTextLines None lines after = Unit {0}
ReadsTextLines (Some text) lines None = ⊥
ReadsTextLines (Some text) lines (Some rest) = text_lines text ≡ lines ++ text_lines rest

-- a text has these lines, and no more
abbrev pub HasLines : Option (List ℕ) → List (List ℕ) → Type 0
HasLines text lines = IfSome text (λ bytes. text_lines bytes ≡ lines)

-- a line is that of a commit that the server has
abbrev pub IsCommonLine : BTreeSet ObjectId → List ℕ → Type 0
IsCommonLine common line = (id : ObjectId) × (id_in line ≡ Some id) × (contains id_cmp common id ≡ true)

-- the next commit of a text is read, and added
pub record ReadsCommit (before : Option (List ℕ)) (old : KnownCommits) (id : ObjectId) (after : Option (List ℕ))
    (new : KnownCommits) : Type 0 where
  pub line : List ℕ
  pub read : ReadsTextLines before (line ∷ []) after
  pub added : commit_line old.read line ≡ Some new.read
  pub named : id_in line ≡ Some id

-- ---- what is offered

-- it isn't known that the server has this commit
abbrev pub IsUncommon : BTreeSet ObjectId → ObjectId → Type 0
IsUncommon common id = contains id_cmp common id ≡ false

-- lines were passed over: what they add was added, and the server has the commits that they name. Nothing that was awaited is
-- forgotten but what was read or is common, and with each commit the server still has all that it leads to
pub record PassesLines (old : KnownCommits) (lines : List (List ℕ)) (new : KnownCommits) : Type 0 where
  pub added : after_lines commit_line old.read lines ≡ Some new.read
  pub passed : All (IsCommonLine new.common) lines
  pub tracked : LosesNone old new
  pub unknown : AwaitsUnknown old → AwaitsUnknown new
  pub whole : IsSharedWhole old.read old.common → IsSharedWhole new.read new.common

-- a commit is offered: the first of the text that isn't known to be common. Its parents are awaited from then on, unless they were
-- read or are common, and the commit itself no longer is. The lines that were read count against those that may be read
pub record OffersCommit {R : Type 0} (remaining : R → Option (List ℕ)) (old : CommitText R) (id : ObjectId) (new : CommitText R)
    : Type 0 where
  pub earlier : List (List ℕ)
  pub line : List ℕ
  pub read : ReadsTextLines (remaining old.text) (earlier ++ line ∷ []) (remaining new.text)
  pub spent : new.left + suc (length earlier) ≡ old.left
  pub added : after_lines commit_line old.known.read (earlier ++ line ∷ []) ≡ Some new.known.read
  pub passed : All (IsCommonLine new.known.common) earlier
  pub named : id_in line ≡ Some id
  pub uncommon : IsUncommon new.known.common id
  pub awaits : AreAwaitedOrKnown new.known.read new.known.common new.known.awaited (parents_of new.known.read id)
  pub tracked : LosesNone old.known new.known
  pub unknown : AwaitsUnknown old.known → AwaitsUnknown new.known
  pub whole : IsSharedWhole old.known.read old.known.common → IsSharedWhole new.known.read new.known.common

-- nothing is offered: the text has no line but those that were passed over, or nothing is awaited any longer. (Or so many lines
-- were read as ever may be.) Those that were read are spent, and one more at most, for the end
pub record OffersNothing {R : Type 0} (remaining : R → Option (List ℕ)) (old new : CommitText R) : Type 0 where
  pub lines : List (List ℕ)
  pub passes : PassesLines old.known lines new.known
  pub over : HasLines (remaining old.text) lines ⊎ (AwaitsNone new.known.awaited ⊎ (new.left ≡ 0))
  pub lowers : new.left ≤ old.left
  pub spent : old.left ≤ new.left + suc (length lines)

-- what a call for an offer does where it doesn't fail
abbrev pub OffersNext : {R : Type 0} → (R → Option (List ℕ)) → CommitText R → Option ObjectId → CommitText R → Type 0
OffersNext remaining old (Some id) new = OffersCommit remaining old id new
OffersNext remaining old None new = OffersNothing remaining old new

-- ---- refusals

-- the error of a refusal: a failed read by its kind, a line that is no commit as a corrupt object
abbrev pub error_of_refusal : Refusal → NegotiatorError
error_of_refusal (Read kind) = Lookup (Io kind)
error_of_refusal (Line number) = Lookup Corrupt

-- the number of the last line, from 1 on, by how many more lines may be read
abbrev pub line_number : ℕ → ℕ
line_number left = 2 ^ 64 - 1 - left

-- the error of the stored refusal; a line that is no commit is refused by its number
abbrev pub IsErrorOfRefusal : (line : List ℕ) (at : ℕ) → NegotiatorError → Option Refusal → Type 0
IsErrorOfRefusal line at e None = ⊥
IsErrorOfRefusal line at e (Some (Read kind)) = e ≡ error_of_refusal (Read kind)
IsErrorOfRefusal line at e (Some (Line number)) = (e ≡ error_of_refusal (Line number)) × (number ≡ at) × IsNoCommit line

-- a call that offers nothing: an allocation failed, or the text isn't read on
abbrev pub ListedOfferFails : (line : List ℕ) (at : ℕ) → Option Refusal → NegotiatorError → Option Refusal → Type 0
ListedOfferFails line at old e new = ((e ≡ NoMemory) × (new ≡ old)) ⊎ IsErrorOfRefusal line at e new

-- the text and how far it was read stay
pub record KeepsCommitText {R : Type 0} (old new : CommitText R) : Type 0 where
  pub text : new.text ≡ old.text
  pub line : new.line ≡ old.line
  pub left : new.left ≡ old.left
  pub refusal : new.refusal ≡ old.refusal
