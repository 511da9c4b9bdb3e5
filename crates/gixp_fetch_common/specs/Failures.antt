-- The failure that a program reports for an error.
use Rattle.std.specs.Prelude.{◌≡◌, ◌≢◌, ℕ, ⊤, Bool, true, false, List, Option, Some, None, string_bytes, option_map, codes, if◌then◌else◌, Result, Ok, Err}
use Rattle.std.specs.Io.BufRead.{strip_last}
use Rattle.std.specs.declared.io.ErrorKind.{ErrorKind}
use Rattle.std.specs.declared.io.ErrorKind.TheVariants.{OutOfMemory}
use Rattle.bstr.specs.Owned.{bstring_bytes}
use Rattle.gixp_fetch_common.specs.Sanitized.{sanitized_after}
use Rattle.gixp_fetch_common.specs.declared.listed_commits.Refusal.{Refusal}
use Rattle.gixp_fetch_common.specs.declared.listed_commits.Refusal.TheVariants as refusal
use Rattle.gix_protocol.specs.UpdateErrorType.{Error as UpdateError}
use Rattle.gix_protocol.specs.UpdateErrorType.TheVariants as update
use Rattle.gixp_fetch_common.specs.declared.failure.Failure.{Failure}
use Rattle.gixp_fetch_common.specs.declared.failure.Failure.TheVariants.{Phase as PhaseFails, NoContact, HungUp, ServerFailed, UnknownUnshallow, File, Line, PackRefused, Missing, Io, Memory}
use Rattle.gixp_fetch_common.specs.declared.failure.Phase.{Phase}
use Rattle.gixp_fetch_common.specs.declared.failure.Phase.TheVariants.{Update}

-- the message of a server as a terminal shows it, without the line end after it
abbrev pub sanitized_message : Option (List ℕ) → Option (List ℕ)
sanitized_message message = option_map (λ words. sanitized_after 0 (strip_last 10 words)) message

-- a phase failed with this message of the server; or an allocation failed
abbrev pub FailureIsPhase : Phase → Option (List ℕ) → Failure → Type 0
FailureIsPhase phase message (PhaseFails p why reported) = (p ≡ phase) × (option_map bstring_bytes reported ≡ sanitized_message message)
FailureIsPhase phase message Memory = ⊤
FailureIsPhase phase message _ = ⊥

-- a phase failed without a message of the server; or an allocation failed
abbrev pub FailureIsUnsaid : Phase → Failure → Type 0
FailureIsUnsaid phase (PhaseFails p why reported) = (p ≡ phase) × (reported ≡ None)
FailureIsUnsaid phase Memory = ⊤
FailureIsUnsaid phase _ = ⊥

-- comparing the local refs failed; or an allocation failed
abbrev pub FailureIsUpdate : UpdateError → Failure → Type 0
FailureIsUpdate update.Memory f = f ≡ Memory
FailureIsUpdate _ f = FailureIsUnsaid Update f

-- a phase failed, for the reason in this text; or an allocation failed
abbrev pub FailureIsPhaseText : Phase → List ℕ → Failure → Type 0
FailureIsPhaseText phase text (PhaseFails p why reported) = (p ≡ phase) × (string_bytes why ≡ text) × (reported ≡ None)
FailureIsPhaseText phase text Memory = ⊤
FailureIsPhaseText phase text _ = ⊥

-- a file can't be read or written; running out of memory isn't the file's failure
abbrev pub FailureIsFile : List ℕ → ErrorKind → Failure → Type 0
FailureIsFile path kind (File p k) = (string_bytes p ≡ path) × (k ≡ kind) × (kind ≢ OutOfMemory)
FailureIsFile path kind Memory = ⊤
FailureIsFile path kind _ = ⊥

-- a line of a text can't be read
abbrev pub FailureIsLine : List ℕ → ℕ → Failure → Type 0
FailureIsLine path line (Line p n) = (string_bytes p ≡ path) × (n ≡ line)
FailureIsLine path line Memory = ⊤
FailureIsLine path line _ = ⊥

-- a fetch failed: because the text of the commits couldn't be read on, or else with its own failure
abbrev pub FailureIsRefusal : List ℕ → Option Refusal → Failure → Failure → Type 0
FailureIsRefusal path (Some (refusal.Read kind)) failure f = FailureIsFile path kind f
FailureIsRefusal path (Some (refusal.Line line)) failure f = FailureIsLine path line f
FailureIsRefusal path None failure f = f ≡ failure

-- whether git reports it in the same words
abbrev pub is_said_by_git : Failure → Bool
is_said_by_git (PhaseFails phase why (Some message)) = true
is_said_by_git (PhaseFails phase why None) = false
is_said_by_git NoContact = true
is_said_by_git HungUp = true
is_said_by_git PackRefused = true
is_said_by_git (UnknownUnshallow id) = true
is_said_by_git ServerFailed = false
is_said_by_git (File path kind) = false
is_said_by_git (Line path line) = false
is_said_by_git (Missing name) = false
is_said_by_git (Io kind) = false
is_said_by_git Memory = false

-- the prefix of the error line
abbrev pub speaker_of : Failure → List ℕ
speaker_of f = if is_said_by_git f then codes "fatal" else codes "gixp_fetch_pack"

-- the result of a fetch, unless the server reported an error
abbrev pub unless_failed : {A : Type 0} → Result A Failure → Bool → Result A Failure
unless_failed (Ok outcome) true = Err ServerFailed
unless_failed (Ok outcome) false = Ok outcome
unless_failed (Err e) has_failed = Err e
