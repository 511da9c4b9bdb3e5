-- The cause of a failed fetch, by its error alone: which call failed, and why (gitprotocol-pack, "Packfile Negotiation").
use Rattle.std.specs.Prelude.{◌≡◌, ◌⊎◌, ⊤, ℕ, suc, Bool, true, false, not, codes, length, List, [], ◌∷◌, ◌++◌, Option, Some, IfSome, Ok, Err}
use Rattle.gixp_packetline.specs.Lines.{refusal as ends_refused}
use Rattle.gixp_packetline.specs.Pieces.{Refusal, Pieces}
use Rattle.gixp_packetline.specs.Reading.{Reading, IsOutside, refusal_of, lines_ahead}
use Rattle.gixp_packetline.specs.declared.read.Error.{Error as read_error}
use Rattle.gixp_packetline.specs.declared.read.Error.TheVariants.{Memory as read_memory}
use Rattle.gixp_capabilities.specs.declared.client.Error.{Error as client_error}
use Rattle.gixp_capabilities.specs.declared.client.Error.TheVariants.{Memory as client_memory}
use Rattle.gixp_hash.specs.declared.object_id.ObjectId.{ObjectId}
use Rattle.gixp_sidebands.specs.Bands.{Side, side_reading}
use Rattle.gixp_sidebands.specs.Questions.{TakesTexts}
use Rattle.gixp_response.specs.declared.fetch.response.error.Error.{Error as answer_error}
use Rattle.gixp_response.specs.declared.fetch.response.error.Error.TheVariants.{Memory as answer_memory}
use Rattle.gixp_response.specs.ResponseError.{AnswerRefusal, answer_refusal, missing_capability, is_interruption, IsAnswerRefusal}
use Rattle.gixp_response.specs.Features.{Feature, missing_feature}
use Rattle.gixp_response.specs.Beginnings.{expected as flags}
use Rattle.gixp_response.specs.AnswerReading.{answer_of}
use Rattle.gixp_requests.specs.Feature.{feature_values, has_feature}
use Rattle.gixp_requests.specs.Arguments.{ArgumentsValue}
use Rattle.gixp_negotiate.specs.Negotiate.{Window, negotiate}
use Rattle.gixp_negotiate.specs.declared.negotiate.Error.{Error as negotiate_error}
use Rattle.gixp_negotiate.specs.declared.negotiate.Error.TheVariants.{NegotiationFailed, Memory as negotiate_memory}
use Rattle.gixp_response.specs.Answer.{AnswerValue, refused as answer_refused}
use Rattle.gixp_shallow.specs.declared.store.ShallowError.{ShallowError}
use Rattle.gixp_shallow.specs.declared.store.ShallowError.TheVariants.{Memory as store_memory}
use Rattle.gixp_fetch.specs.declared.error.Error.{Error}
use Rattle.gixp_fetch.specs.declared.error.Error.TheVariants.{FetchResponse, Negotiate, Client, MissingServerFeature, WriteShallowFile, ReadShallowFile, LockShallowFile, RejectShallowRemote, ConsumePack, ReadRemainingBytes, Memory}
use Rattle.gixp_fetch.specs.declared.receive.PackFailure.TheVariants.{Consumer}
use Rattle.gixp_fetch.specs.FetchRounds.{Turn, SendsRound}
use Rattle.gixp_fetch.specs.FetchShallow.{no_change, description_of}
use Rattle.gixp_fetch.specs.View.{view, view_plain}
use Rattle.gixp_fetch.specs.Sent.{requests_of, WroteRequests}
use Rattle.gixp_fetch.specs.Receive.{GivesBack}
use Rattle.gixp_shallow.specs.Store.{to_lock, to_read, to_write}
use Rattle.gixp_fetch.specs.Fetch.{World, Parties}
use Rattle.gixp_fetch.specs.Fetched.{FetchCall, features}
use Rattle.gixp_fetch.specs.Sessions.{AreAnswers, TakesPack, RefusesPack}
use Rattle.gixp_fetch.specs.Kept.{PollsGoOn}
use Rattle.gixp_fetch.specs.Headline.{AnswerFromOutside}

-- reading lines up to a special packet failed: this error ends the lines, or is an I/O error, an interrupt or an
-- allocation failure after some of them
abbrev pub EndsShort : Reading → Reading → Refusal → Type 0
EndsShort old new e = (IfSome old.to_come (λ p. (lines_ahead old p).ending ≡ ends_refused e) × (new.failures ≡ old.failures))
    ⊎ ((now : Reading) × IsOutside now new e × (now.failures ≡ old.failures)
    × IfSome old.to_come (λ p. (q : Pieces) × (now.to_come ≡ Some q) × ((lines_ahead now q).ending ≡ (lines_ahead old p).ending)))

-- the same for the lines after a pack
pub record StopsShort (old new : Reading) (e : Refusal) : Type 0 where
  pub why : EndsShort old new e
  pub version : new.version ≡ old.version
  pub held : new.held ≡ old.held

module _ {I : Type 0} (polls : I → Bool → I → Type 0) where
  -- the interrupt was asked once after each packet of bands 2 and 3, and let reading go on each time, or stopped it the last
  -- time
  abbrev pub AsksPackets : Bool → Reading → Reading → I → I → Type 0
  AsksPackets false old new first last = (n : ℕ) × IfSome old.to_come (TakesTexts n old new) × PollsGoOn polls n first last
  AsksPackets true old new first last = (n : ℕ) × (mid : I) × IfSome old.to_come (TakesTexts (suc n) old new)
      × PollsGoOn polls n first mid × polls mid true last

  -- reading a failed response asked the interrupt like this with `sideband-all`, and otherwise not at all; if the error is an
  -- interrupt, it stopped reading, unless a reader below did
  abbrev pub AsksAnswer : (banded plain stops : Bool) → Reading → Reading → I → I → Type 0
  AsksAnswer false plain stops old new first last = last ≡ first
  AsksAnswer true plain stops old new first last = AsksPackets stops old new first last
      ⊎ ((plain ≡ false) × (stops ≡ true) × AsksPackets false old new first last)

module _ {N I A S C P X : Type 0} (parties : Parties N I A S C P X) (call : FetchCall) (old new : World N I S C) where
  -- the boundary may change
  abbrev pub MayChange : Type 0
  MayChange = call.fetch_options.shallow ≡ no_change → ⊥

  -- the lock is taken first if the boundary may change
  abbrev pub IsLockedFirst : S → Type 0
  IsLockedFirst held = ((call.fetch_options.shallow ≡ no_change) × (held ≡ old.store)) ⊎ (MayChange × parties.store_calls.locks old.store held)

  -- the lock is released if the boundary may change
  abbrev pub IsGivenBack : S → Type 0
  IsGivenBack last = ((call.fetch_options.shallow ≡ no_change) × (new.store ≡ last)) ⊎ (MayChange × parties.store_calls.releases last new.store)

  -- taking the lock failed: first of all if the boundary may change, or after the boundary was read, for updates that
  -- weren't requested
  abbrev pub LockRefused : ShallowError → Type 0
  LockRefused e = (MayChange × parties.store_calls.failures to_lock old.store e new.store)
      ⊎ ((call.fetch_options.shallow ≡ no_change) × (call.fetch_options.reject ≡ false) × (ids : List ObjectId) × (read : S)
      × parties.store_calls.reads old.store ids read × parties.store_calls.failures to_lock read e new.store)

  -- reading the boundary failed
  pub record BoundaryUnread (e : ShallowError) : Type 0 where
    pub held : S
    pub first : IsLockedFirst held
    pub last : S
    pub refused : parties.store_calls.failures to_read held e last
    pub back : IsGivenBack last
    pub negotiate : new.negotiate ≡ old.negotiate
    pub reading : new.reading ≡ old.reading

  -- writing the boundary failed, and the lock was released
  abbrev pub BoundaryUnwritten : ShallowError → Type 0
  BoundaryUnwritten e =
      (had : S) × (last : S) × parties.store_calls.failures to_write had e last × parties.store_calls.releases last new.store

  -- updates that weren't requested were rejected, after the boundary was read
  abbrev pub IsRejected : Type 0
  IsRejected = (call.fetch_options.shallow ≡ no_change) × (call.fetch_options.reject ≡ true)
      × ((ids : List ObjectId) × parties.store_calls.reads old.store ids new.store) × (new.consumer ≡ old.consumer)

  -- the server lacks a feature that responses need: the first of these
  pub record LacksRequired (e : answer_error) : Type 0 where
    pub raw : List Feature
    pub values : feature_values raw ≡ features call
    pub name : List ℕ
    pub missing : missing_feature call.version raw ≡ Some name
    pub error : answer_refusal e ≡ missing_capability name
    pub rests : new ≡ old

  -- the response to the last request failed: by the grammar, for that reason, or with an I/O error, an interrupt or
  -- an allocation failure
  pub record AnswerRefused (e : answer_error) : Type 0 where
    pub banded : Bool
    pub bands : banded ≡ has_feature (codes "sideband-all") (features call)
    pub requests : List (List ℕ)
    pub sent : Reading
    pub wrote : WroteRequests old.reading sent requests
    pub done : Bool
    pub why : ((r : AnswerRefusal)
        × IfSome (view banded sent).to_come (λ p. answer_of call.version (flags done (not done)) p ≡ answer_refused r)
        × IsAnswerRefusal e r) ⊎ AnswerFromOutside (view_plain banded parties.plain) (view banded sent) (view banded new.reading) e
    pub held : new.reading.held ≡ sent.held
    pub before : I
    pub first : I
    pub goes_on : parties.polls before false first
    pub asks : AsksAnswer parties.polls banded parties.plain (is_interruption (answer_refusal e)) sent new.reading first new.interrupt

  -- a request couldn't be sent, after others
  pub record RequestRefused (e : client_error) : Type 0 where
    pub before : Reading
    pub requests : List (List ℕ)
    pub wrote : WroteRequests old.reading before requests
    pub asked : ArgumentsValue
    pub done : Bool
    pub refused : SendsRound before new.reading asked done (Err e)
    pub asks : (first : I) × parties.polls first false new.interrupt

  -- after so many rounds the caller stopped, or the last was done without a pack
  pub record NoPackAfter (n : ℕ) : Type 0 where
    pub banded : Bool
    pub turns : List (Turn N I)
    pub count : n ≡ length turns
    pub answers : AreAnswers call.version banded turns
    pub wrote : WroteRequests old.reading new.reading (requests_of turns)
    pub why : ((before : I) × parties.polls before true new.interrupt) ⊎ ((first : List (Turn N I)) × (last : Turn N I)
        × (turns ≡ first ++ last ∷ []) × (last.done ≡ true) × (last.reply.pack ≡ false))

  -- a call of the negotiation failed
  abbrev pub NegotiationRefused : negotiate_error A → Type 0
  NegotiationRefused e = parties.negotiation_calls.marking_fails old.negotiate e new.negotiate
      ⊎ ((known : List Bool) × (marked : N) × (given : ArgumentsValue) × (asked : ArgumentsValue)
      × parties.negotiation_calls.marks old.negotiate (negotiate known) marked
      × parties.negotiation_calls.adding_fails marked known given e asked new.negotiate)
      ⊎ ((from : N) × (window : Window) × (given : ArgumentsValue) × (previous : Option AnswerValue) × (next : Window)
      × (asked : ArgumentsValue) × parties.negotiation_calls.round_fails from window given previous e new.negotiate next asked
      × ((requests : List (List ℕ)) × WroteRequests old.reading new.reading requests)
      × ((before : I) × parties.polls before false new.interrupt))

  -- there was no pack, or a call of the negotiation failed
  abbrev pub NegotiationCause : negotiate_error A → Type 0
  NegotiationCause (NegotiationFailed n) = NoPackAfter n
  NegotiationCause e = (e ≡ negotiate_memory → ⊥) × NegotiationRefused e

  -- the server lacks this feature, which the tags, the boundary or the depth need, and nothing was sent
  pub record FeatureLacked (name text : List ℕ) : Type 0 where
    pub lacks : has_feature name (features call) ≡ false
    pub polls : text ≡ description_of name
    pub negotiate : new.negotiate ≡ old.negotiate
    pub reading : new.reading ≡ old.reading
    pub interrupt : new.interrupt ≡ old.interrupt
    pub consumer : new.consumer ≡ old.consumer
    pub store : (new.store ≡ old.store) ⊎ ((ids : List ObjectId) × (held : S) × (read : S) × IsLockedFirst held
        × parties.store_calls.reads held ids read × IsGivenBack read)

  -- the consumer asked to read the pack to its end, and the rest doesn't end in a flush packet
  pub record RestRefused (e : read_error) (progress : P) : Type 0 where
    pub from : Reading
    pub left : Side
    pub end : Side
    pub takes : TakesPack parties old.consumer from (Ok true) new.consumer left progress
    pub short : StopsShort (side_reading left) (side_reading end) (refusal_of e)
    pub back : GivesBack end new.reading

  -- the cause of each error; an allocation failure may happen anywhere, and is always reported as one
  abbrev pub IsCause : P → Error A X → Type 0
  IsCause progress (FetchResponse e) = (e ≡ answer_memory → ⊥) × (LacksRequired e ⊎ AnswerRefused e)
  IsCause progress (Negotiate e) = NegotiationCause e
  IsCause progress (Client e) = (e ≡ client_memory → ⊥) × RequestRefused e
  IsCause progress (MissingServerFeature name text) = FeatureLacked name.now text.now
  IsCause progress (WriteShallowFile e) = (e ≡ store_memory → ⊥) × BoundaryUnwritten e
  IsCause progress (ReadShallowFile e) = (e ≡ store_memory → ⊥) × BoundaryUnread e
  IsCause progress (LockShallowFile e) = (e ≡ store_memory → ⊥) × LockRefused e
  IsCause progress RejectShallowRemote = IsRejected
  IsCause progress (ConsumePack x) = (from : Reading) × RefusesPack parties old.consumer from (Consumer x) new.consumer new.reading progress
  IsCause progress (ReadRemainingBytes e) = (e ≡ read_memory → ⊥) × RestRefused e progress
  IsCause progress Memory = ⊤
