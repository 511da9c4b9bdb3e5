-- The state of a session after a failed call: at a stop, ended by the server, or broken (gitprotocol-pack, "pkt-line Format";
-- gitprotocol-v2, "Command Request").
use Rattle.std.specs.Option.{option_map}
use Rattle.bstr.specs.Owned.{bstring_bytes}
use Rattle.std.specs.Prelude.{◌≡◌, ◌⊎◌, ⊤, find, Bool, true, false, not, ◌&&◌, if◌then◌else◌, ℕ, List, Option, Some, None, is_some, Result, Ok, Err}
use Rattle.gixp_packetline.specs.declared.protocol.Protocol.{Protocol}
use Rattle.gixp_packetline.specs.declared.protocol.Protocol.TheVariants.{V0, V1, V2}
use Rattle.gixp_capabilities.specs.declared.client.Error.{Error as ClientError}
use Rattle.gixp_capabilities.specs.declared.client.Error.TheVariants.{LineTooLong}
use Rattle.gixp_response.specs.declared.fetch.response.error.Error.{Error as AnswerError}
use Rattle.gixp_response.specs.declared.fetch.response.error.Error.TheVariants.{MissingServerCapability}
use Rattle.gixp_fetch.specs.declared.options.Outcome.{Outcome}
use Rattle.gixp_client.specs.ClientError.{message_in}
use Rattle.gixp_client.specs.declared.error.Error.{Error}
use Rattle.gixp_client.specs.declared.error.Error.TheVariants.{Refspec, UnsupportedListing, UnsupportedRefName, UnknownObjectFormat, Conflicts, Request, Answer, Unnegotiated, Objects, LocalRefs, MissingFeature, UnknownUnshallow, Reported, Memory}
use Rattle.gixp_client.specs.declared.listen.Kept.{Kept}
use Rattle.gixp_client.specs.declared.state.State.{State}
use Rattle.gixp_client.specs.declared.state.State.TheVariants.{AtStop, Ended, Broken}

-- after a complete response: under version 2 each request is independent, under versions 0 and 1 the request continues or is over
abbrev pub state_after_answers : Protocol → State → State
state_after_answers V0 s = s
state_after_answers V1 s = s
state_after_answers V2 s = AtStop

-- after a request that couldn't be sent: a line that is too long is detected before anything is written
abbrev pub state_after_request : ClientError → State
state_after_request LineTooLong = AtStop
state_after_request _ = Broken

-- after a response that couldn't be read: a missing capability is detected before anything is written
abbrev pub state_after_answer : AnswerError → State
state_after_answer (MissingServerCapability feature) = AtStop
state_after_answer _ = Broken

-- after a call that failed without a server message. Nothing was sent if the server can't list refs or lacks a feature, or if the
-- local refs, which are read first, can't be read. The list was read completely if it can't be mapped
-- or has a name that isn't supported. The response was read
-- completely if all rounds ended without a pack or an object can't be read, and the pack if an unshallowed id isn't in the
-- boundary. After any other error the position in the stream is unknown.
abbrev pub state_after_silent_error : Protocol → Error → State
state_after_silent_error version (Refspec spec why) = AtStop
state_after_silent_error version UnsupportedListing = AtStop
state_after_silent_error version UnsupportedRefName = AtStop
state_after_silent_error version (UnknownObjectFormat format) = AtStop
state_after_silent_error version (Conflicts e) = AtStop
state_after_silent_error version (MissingFeature feature) = AtStop
state_after_silent_error version (LocalRefs e) = AtStop
state_after_silent_error version (Request e) = state_after_request e
state_after_silent_error version (Answer e) = state_after_answer e
state_after_silent_error version (Unnegotiated rounds) = state_after_answers version Ended
state_after_silent_error version (UnknownUnshallow id) = state_after_answers version Ended
state_after_silent_error version (Objects e) = state_after_answers version Broken
state_after_silent_error version _ = Broken

-- after a call that failed with this error: a server that sends a message closes the connection
abbrev pub state_after_refusal : Protocol → Error → State
state_after_refusal version e = if is_some (message_in e) then Ended else state_after_silent_error version e

-- after a ref map: nothing was sent if the session had the refs
abbrev pub state_after_map : Bool → Protocol → Error → State
state_after_map true version e = AtStop
state_after_map false version e = state_after_refusal version e

-- after this outcome: nothing was sent if there was nothing to request, and a server of version 0 or 1 ends after its pack
abbrev pub state_after_outcome : Protocol → Option Outcome → State
state_after_outcome version None = AtStop
state_after_outcome version (Some outcome) = state_after_answers version Ended

-- after a fetch: nothing was sent if it failed before a negotiated round
abbrev pub state_after_fetch : (is_negotiated : Bool) → Protocol → Result (Option Outcome) Error → State
state_after_fetch is_negotiated version (Ok outcome) = state_after_outcome version outcome
state_after_fetch true version (Err e) = state_after_refusal version e
state_after_fetch false version (Err e) = AtStop

-- ---- errors that the server reports on band 3

-- the server reported an error, also one whose text is missing, and the fetch doesn't continue
abbrev pub is_reported : Bool → Bool → Bool
is_reported goes_on has_error = not goes_on && has_error

-- the text of the first error that was kept
abbrev pub first_error : Kept → Option (List ℕ)
first_error messages = option_map (λ t. bstring_bytes t.text) (find (λ t. t.is_error) messages.texts.items)

-- the error of such a fetch: that text; or an allocation failure, if none was kept or it can't be copied
abbrev pub IsReport : Kept → Error → Type 0
IsReport messages (Reported message) = first_error messages ≡ Some (bstring_bytes message)
IsReport messages Memory = ⊤
IsReport messages _ = ⊥

abbrev pub IsReportIn : Kept → Result (Option Outcome) Error → Type 0
IsReportIn messages (Ok outcome) = ⊥
IsReportIn messages (Err e) = IsReport messages e

-- a fetch failed: with its own error or a later allocation failure; or the server reported an error, and the session has ended
abbrev pub IsRefusedFetch : (is_negotiated : Bool) → Protocol → Result (Option Outcome) Error → Error → State → Type 0
IsRefusedFetch is_negotiated version report e state =
    (((report ≡ Err e) ⊎ (e ≡ Memory)) × (state ≡ state_after_fetch is_negotiated version report))
    ⊎ ((messages : Kept) × IsReport messages e × (state ≡ Ended))
