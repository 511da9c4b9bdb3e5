-- The values that a fetch lends to its steps, as plain data.
use Rattle.std.specs.Prelude.{◌≡◌, Bool, false, [], ◌∷◌, ◌++◌, Option, None}
use Rattle.gixp_packetline.specs.Reading.{Reading}
use Rattle.gixp_response.specs.Answer.{AnswerValue}
use Rattle.gixp_requests.specs.Arguments.{ArgumentsValue}
use Rattle.gixp_negotiate.specs.declared.negotiate.Round.{Round}
use Rattle.gixp_negotiate.specs.Negotiate.{first_window, NegotiationCalls}
use Rattle.gixp_fetch.specs.declared.session.FetchSession.{FetchSession}
use Rattle.gixp_fetch.specs.declared.lock.StoreLock.{StoreLock}
use Rattle.gixp_fetch.specs.declared.rounds.RoundsSoFar.{RoundsSoFar}
use Rattle.gixp_fetch.specs.FetchRounds.{At, Manner, manner_of, Turns}
use Rattle.gixp_fetch.specs.Fetch.{World}

module _ {T P I : Type 0} where
  -- a step gets the same transport, progress and interrupt, with the same version
  pub record IsSameSession (old new : FetchSession T P I) : Type 0 where
    pub transport : new.transport.ghost_name ≡ old.transport.ghost_name
    pub progress : new.progress.ghost_name ≡ old.progress.ghost_name
    pub interrupt : new.interrupt.ghost_name ≡ old.interrupt.ghost_name
    pub version : new.version ≡ old.version
    pub sideband_all : new.sideband_all ≡ old.sideband_all

  -- the relations of its rounds
  abbrev pub manner_in : {N A : Type 0} → NegotiationCalls N A → (I → Bool → I → Type 0) → Bool → FetchSession T P I → Manner N I A
  manner_in calls polls plain session = manner_of calls polls session.version session.sideband_all plain

  module _ {N : Type 0} (reading : T → Reading) where
    -- its state between two rounds
    abbrev pub position : {Q : Type 0} → N → FetchSession T P I → RoundsSoFar Q → Option AnswerValue → At N I
    position negotiate session so_far previous = record {
      negotiate = negotiate;
      window = so_far.window;
      asked = so_far.arguments;
      previous = previous;
      reading = reading session.transport.now;
      interrupt = session.interrupt.now;
    }

    -- its state before the first round
    abbrev pub begins : N → FetchSession T P I → Bool → ArgumentsValue → At N I
    begins negotiate session stateless asked = record {
      negotiate = negotiate;
      window = first_window stateless;
      asked = asked;
      previous = None;
      reading = reading session.transport.now;
      interrupt = session.interrupt.now;
    }

    -- the state that it changes
    abbrev pub world_of : {S C : Type 0} → N → FetchSession T P I → StoreLock S → C → World N I S C
    world_of negotiate session lock consumer = record {
      negotiate = negotiate;
      reading = reading session.transport.now;
      interrupt = session.interrupt.now;
      store = lock.store.now;
      locked = lock.locked;
      consumer = consumer;
    }

module _ {S : Type 0} where
  -- a step gets the same store, with the same option to reject
  pub record IsSameLock (old new : StoreLock S) : Type 0 where
    pub store : new.store.ghost_name ≡ old.store.ghost_name
    pub reject : new.reject ≡ old.reject

module _ {N I A Q : Type 0} (m : Manner N I A) where
  -- a round was done after the interrupt let it begin, and its report is appended to the earlier ones
  pub record TurnEnds (old : At N I) (before : RoundsSoFar Q) (done : Bool) (reply : AnswerValue) (new : At N I)
      (after : RoundsSoFar Q) : Type 0 where
    pub round : Round
    pub asked : ArgumentsValue
    pub sent : Reading
    pub reported : after.rounds.items ≡ before.rounds.items ++ round ∷ []
    pub gathered : after.updates.items ≡ before.updates.items ++ reply.shallow_updates
    pub turn : (start : I) → m.polls start false old.interrupt → Turns m (record old { interrupt = start })
        (record { asked = asked; round = round; done = done; sent = sent; reply = reply; after = new })
