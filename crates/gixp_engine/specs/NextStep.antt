-- The caller's next action, from the responses so far (gitprotocol-v2; gitprotocol-pack, "Packfile Negotiation").
use Rattle.std.specs.Prelude.{◌≡◌, ℕ, ◌+◌, ◌-◌, ◌<◌, nat_lt, true, if◌then◌else◌, List, [], map, length, slice_get, slice_index, Option, Some, None, Vec, Result, Ok, Err}
use Rattle.std.specs.declared.alloc.AllocError.{AllocError}
use Rattle.std.specs.declared.alloc.Global.{Global}
use Rattle.gixp_packetline.specs.declared.protocol.Protocol.{Protocol}
use Rattle.gixp_packetline.specs.declared.protocol.Protocol.TheVariants.{V0, V1, V2}
use Rattle.gixp_packetline.specs.Reading.{Reading}
use Rattle.gixp_transport.specs.declared.bodies.Body.{Body}
use Rattle.gixp_transport.specs.declared.bodies.Bodies.{Bodies}
use Rattle.gixp_transport.specs.Bodies.{answer_of, bodies_reading, IsNewBodies}
use Rattle.gixp_graph.specs.Object.{Objects}
use Rattle.std.specs.FinMap as finite
use Rattle.gixp_shallow.specs.declared.store.memory.ShallowMemory.{ShallowMemory}
use Rattle.gixp_refmap.specs.declared.refmap.map.RefMap.{RefMap}
use Rattle.gixp_handshake.specs.declared.handshake.read.Handshake.{Handshake}
use Rattle.gixp_fetch.specs.declared.error.Error.{Error as FetchError}
use Rattle.gixp_fetch.specs.declared.options.Outcome.{Outcome}
use Rattle.gixp_records.specs.declared.packets.PacketRefused.{PacketRefused}
use Rattle.gixp_records.specs.Place.{FollowsHeader, FollowsAcknowledgements, RefusedFrom}
use Rattle.gixp_engine.specs.declared.consumer.Left.{Left}
use Rattle.gixp_engine.specs.declared.error.EngineError.{EngineError}
use Rattle.gixp_engine.specs.declared.error.EngineError.TheVariants.{NoAnswer, TooManyAnswers, Lengths, Pack as Packless, Memory}
use Rattle.gixp_engine.specs.declared.session.Received.{Received}
use Rattle.gixp_engine.specs.declared.step.EngineStep.{EngineStep}
use Rattle.gixp_engine.specs.declared.step.EngineStep.TheVariants.{Request, Pack, Nothing}
use Rattle.gixp_engine.specs.declared.step.SessionInput.{SessionInput}
use Rattle.gixp_engine.specs.Handed.{answers_between, answer_in, objects_held}
use Rattle.gixp_engine.specs.ListLosses.{losses_of}
use Rattle.gixp_engine.specs.Alone.{EngineSession}

-- the last response begins where the one before it ends
abbrev pub start_of_last : List ℕ → ℕ
start_of_last ends = if nat_lt (length ends) 2 then 0 else slice_index ends (length ends - 2)

-- the offset of the pack in the response that begins at `start`: after the header, or at the first line that is neither an
-- acknowledgement nor a shallow update
abbrev pub BeginsPack : Protocol → List ℕ → ℕ → ℕ → Type 0
BeginsPack V2 bytes start place = FollowsHeader bytes start place
BeginsPack V1 bytes start place = FollowsAcknowledgements bytes start place
BeginsPack V0 bytes start place = FollowsAcknowledgements bytes start place

-- the step by the requests of a session and its result; the first response is the advertisement, each other one is to the next request
pub data StepsTo (bytes ends : List ℕ) (sent : List (List ℕ)) (ended : Result (Option Received) EngineError)
    (step : Result EngineStep EngineError) : Type 0 where
  -- a request has no response yet
  asks : (request : Vec ℕ Global) → slice_get sent (length ends - 1) ≡ Some request.items → step ≡ Ok (Request request)
      → StepsTo bytes ends sent ended step
  -- each request has a response, and the last has the start of the pack, or lacks it
  takes : (received : Received) (place : ℕ) → length sent + 1 ≡ length ends → ended ≡ Ok (Some received)
      → BeginsPack received.version bytes (start_of_last ends) place → step ≡ Ok (Pack place received.boundary)
      → StepsTo bytes ends sent ended step
  packless : (received : Received) (e : PacketRefused) → length sent + 1 ≡ length ends → ended ≡ Ok (Some received)
      → RefusedFrom bytes (start_of_last ends) e → step ≡ Err (Packless e) → StepsTo bytes ends sent ended step
  -- each request has a response, and there is nothing to request
  rests : length sent + 1 ≡ length ends → ended ≡ Ok None → step ≡ Ok Nothing → StepsTo bytes ends sent ended step
  -- there is one response too many
  overfull : (pack : Option Received) → length sent + 1 < length ends → ended ≡ Ok pack → step ≡ Err TooManyAnswers
      → StepsTo bytes ends sent ended step
  -- the session failed
  failed : (e : EngineError) → length sent < length ends → ended ≡ Err e → step ≡ Err e → StepsTo bytes ends sent ended step
  -- an allocation failed while the request was copied
  uncopied : step ≡ Err Memory → StepsTo bytes ends sent ended step

-- a transport over these responses that has sent nothing
pub record OpensOver (answers : List (List ℕ)) (transport : Bodies) : Type 0 where
  pub bodies : List Body
  pub answered : map answer_of bodies ≡ map answer_in answers
  pub fresh : IsNewBodies bodies [] [] transport

module _ {O : Type 0} (contents : O → Objects)
    (Receives : O → RefMap → Handshake → Reading → ShallowMemory → Reading → ShallowMemory
    → Result (Option Outcome) (FetchError AllocError Left) → Type 0)
    (bytes ends : List ℕ) (input : SessionInput) where
  -- a session over the responses, with only the haves as local objects, and the requests that it sent
  pub record SessionOver (answers : List (List ℕ)) (sent : List (List ℕ)) (ended : Result (Option Received) EngineError) : Type 0 where
    pub here : O
    pub transport : Bodies
    pub new : Reading
    pub holds : contents here ≡ objects_held finite.empty input.haves.items
    pub opens : OpensOver answers transport
    pub session : EngineSession (Receives here) input.specs input.filter input.boundary.items (losses_of (map answer_in answers)) true
        (bodies_reading transport) new ended
    pub requests : sent ≡ new.held.sent

  -- the step by that session, unless the offsets are invalid, or there is no response, or an allocation failed
  pub data IsNextStep (step : Result EngineStep EngineError) : Type 0 where
    uncut : answers_between bytes 0 ends ≡ None → step ≡ Err Lengths → IsNextStep step
    unanswered : answers_between bytes 0 ends ≡ Some [] → step ≡ Err NoAnswer → IsNextStep step
    unstored : step ≡ Err Memory → IsNextStep step
    stepped : (answers : List (List ℕ)) (sent : List (List ℕ)) (ended : Result (Option Received) EngineError)
        → answers_between bytes 0 ends ≡ Some answers → SessionOver answers sent ended → StepsTo bytes ends sent ended step
        → IsNextStep step
