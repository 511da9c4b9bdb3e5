-- A session that is opened, or can't be.
use Rattle.std.proofs.Common.{◌≡◌, inl, inr, List, [], ◌∷◌, None, Ok, Err, Bool, subst}
use Rattle.gixp_packetline.specs.Reading.{Reading}
use Rattle.gixp_transport.specs.Greeting.{Parameter}
use Rattle.gixp_transport.specs.declared.service.Service.TheVariants.{UploadPack}
use Rattle.gixp_handshake.specs.declared.credentials.Action.{Action}
use Rattle.gixp_handshake.specs.Shake.{CredentialCall, CredentialAnswer, MakesCredentialCalls, AsksCredentials, CompletesHandshake}
use Rattle.gixp_handshake.specs.declared.handshake.read.Handshake.{Handshake}
use Rattle.gixp_handshake.specs.WithoutAccount.{AreUnanswered}
use Rattle.gixp_client.specs.ClientCalls.{OpensSession, FailsToOpen, FailsWithoutAccount}
use Rattle.gixp_client.specs.declared.error.Error.{Error}

-- a helper that always has no account gave none in each of its calls
all_unanswered : {A : Type 0} (asks : A → Action → CredentialAnswer → A → Type 0)
    → ((a : A) (x : Action) (r : CredentialAnswer) (b : A) → asks a x r b → r ≡ Ok None) → (old new : A) (turns : List CredentialCall)
    → MakesCredentialCalls asks old turns new → AreUnanswered turns
all_unanswered asks h old new [] k = tt
all_unanswered asks h old new (t ∷ ts) k = (h old t.action t.answer k.0 k.1, all_unanswered asks h k.0 new ts k.2)

-- a client that always has no account
pub without_account : {A : Type 0} (asks : A → Action → CredentialAnswer → A → Type 0) (authenticate : A) (parameters : List Parameter)
    (plain : Bool) (old : Reading) (e : Error) → FailsToOpen asks authenticate parameters plain old e → parameters ≡ []
    → ((a : A) (x : Action) (r : CredentialAnswer) (b : A) → asks a x r b → r ≡ Ok None) → FailsWithoutAccount plain old e
without_account asks authenticate parameters plain old e (inl m) p h = inl m
without_account asks authenticate parameters plain old e (inr (inl (x, new, last, calls, is))) p h = inr (inl (
  x,
  new,
  record {
    turns = calls.0;
    unanswered = all_unanswered asks h authenticate last calls.0 calls.1;
    shakes = subst (λ (ps : List Parameter). CompletesHandshake UploadPack ps plain old new calls.0 (Err x)) p calls.2;
  },
  is,
))
without_account asks authenticate parameters plain old e (inr (inr (shaken, new, last, calls, listed, is))) p h = inr (inr (
  shaken,
  new,
  record {
    turns = calls.0;
    unanswered = all_unanswered asks h authenticate last calls.0 calls.1;
    shakes = subst (λ (ps : List Parameter). CompletesHandshake UploadPack ps plain old new calls.0 (Ok shaken)) p calls.2;
  },
  listed,
  is,
))

-- the session that a handshake opens
pub opened_by : {A : Type 0} (asks : A → Action → CredentialAnswer → A → Type 0) (authenticate : A) (parameters : List Parameter)
    (plain : Bool) (old old' new : Reading) (shaken : Handshake) → old ≡ old'
    → (last : A) × AsksCredentials asks authenticate last (λ turns. CompletesHandshake UploadPack parameters plain old new turns (Ok shaken))
    → OpensSession parameters plain old' new shaken
opened_by asks authenticate parameters plain old old' new shaken e (last, calls) = record {
  credentials = calls.0;
  shakes = subst (λ (x : Reading). CompletesHandshake UploadPack parameters plain x new calls.0 (Ok shaken)) e calls.2;
}
