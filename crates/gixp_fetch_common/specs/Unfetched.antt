-- The failure of a call of the session, by the phase and the error.
use Rattle.std.specs.Prelude.{◌≡◌, ℕ, Bool, true, false, List, Option, Some, None}
use Rattle.gix_protocol.specs.AnswerMessage.{answer_message}
use Rattle.gix_protocol.specs.ClientMessage.{client_message}
use Rattle.gix_protocol.specs.HandshakeMessage.{handshake_message}
use Rattle.gix_protocol.specs.RefsMessage.{refs_message}
use Rattle.gix_protocol.specs.Reasons.{reason}
use Rattle.gix_protocol.specs.SessionErrorType.{Error}
use Rattle.gix_protocol.specs.SessionErrorType.TheVariants as error
use Rattle.gixp_fetch_common.specs.Failures.{FailureIsPhase, FailureIsPhaseText, FailureIsUnsaid}
use Rattle.gixp_fetch_common.specs.HangUp.{is_hang_up}
use Rattle.gixp_fetch_common.specs.declared.failure.Failure.{Failure}
use Rattle.gixp_fetch_common.specs.declared.failure.Failure.TheVariants.{NoContact, HungUp, UnknownUnshallow, Memory}
use Rattle.gixp_fetch_common.specs.declared.failure.Phase.{Phase}
use Rattle.gixp_fetch_common.specs.declared.failure.Phase.TheVariants as during

-- the server ended the connection: in the handshake it may not have been reached
abbrev pub hang_up_failure : Phase → Failure
hang_up_failure during.Handshake = NoContact
hang_up_failure _ = HungUp

-- the error itself: the server's message, or the id that isn't in the boundary
abbrev pub FailureIsItself : Phase → Error → Failure → Type 0
FailureIsItself phase (error.Handshake e) f = FailureIsPhase phase (handshake_message e) f
FailureIsItself phase (error.Refs e) f = FailureIsPhase phase (refs_message e) f
FailureIsItself phase (error.Request e) f = FailureIsPhase phase (client_message e) f
FailureIsItself phase (error.Answer e) f = FailureIsPhase phase (answer_message e) f
FailureIsItself phase (error.UnknownUnshallow id) f = f ≡ UnknownUnshallow id
FailureIsItself phase error.Memory f = f ≡ Memory
FailureIsItself phase _ f = FailureIsUnsaid phase f

-- the reason of a failed connection or of a malformed answer, where there is one; else the error itself
abbrev pub FailureIsReason : Option (List ℕ) → Phase → Error → Failure → Type 0
FailureIsReason (Some why) phase e f = FailureIsPhaseText phase why f
FailureIsReason None phase e f = FailureIsItself phase e f

-- that the server ended the connection, where it did; else why the call failed
abbrev pub FailureIsUnlessHungUp : Bool → Phase → Error → Failure → Type 0
FailureIsUnlessHungUp true phase e f = f ≡ hang_up_failure phase
FailureIsUnlessHungUp false phase e f = FailureIsReason (reason e) phase e f

pub record FailureIsSessionError (phase : Phase) (e : Error) (f : Failure) : Type 0 where
  pub reports : FailureIsUnlessHungUp (is_hang_up e) phase e f

-- a call failed in a phase, with an error for which `P` holds
pub record FailsWithin (phase : Phase) (P : Error → Type 0) (f : Failure) : Type 0 where
  pub error : Error
  pub holds : P error
  pub reported : FailureIsSessionError phase error f
