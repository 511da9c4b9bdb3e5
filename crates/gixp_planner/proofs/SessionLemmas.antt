-- The steps of a session, one after another.
use Rattle.std.proofs.Common.{◌≡◌, ℕ, Bool, true, false, List, [], ◌∷◌, ◌++◌, map, Option, Some, None, Vec, vec_items, Result, Ok, Err, inl, inr, refl, sym, ap, ◌∙◌, subst}
use Rattle.std.specs.declared.alloc.Global.{Global}
use Rattle.gixp_packetline.specs.declared.protocol.Protocol.{Protocol}
use Rattle.gixp_transport.specs.declared.bodies.Body.{Body}
use Rattle.gixp_transport.specs.declared.bodies.Bodies.{Bodies}
use Rattle.gixp_transport.specs.Bodies.{bodies_reading, IsNewBodies}
use Rattle.gixp_packetline.specs.Reading.{Reading}
use Rattle.gixp_refmap.specs.declared.refmap.init.Context.{Context}
use Rattle.gixp_refmap.specs.declared.refmap.init.Error.{Error as MapError}
use Rattle.gixp_refmap.specs.declared.refmap.map.RefMap.{RefMap}
use Rattle.gixp_handshake.specs.declared.credentials.Action.{Action}
use Rattle.gixp_handshake.specs.declared.handshake.read.Handshake.{Handshake}
use Rattle.gixp_handshake.specs.Shake.{CredentialCall, CredentialAnswer, MakesCredentialCalls}
use Rattle.gixp_handshake.specs.Taken.{without_refs}
use Rattle.gixp_handshake.specs.Obtain.{ObtainsMappings}
use Rattle.gixp_fetch.specs.declared.error.Error.{Error as FetchError}
use Rattle.gixp_fetch.specs.declared.options.Outcome.{Outcome}
use Rattle.gixp_requests.specs.Command.{TableValue, git_table}
use Rattle.gixp_requests.specs.Feature.{FeatureValue}
use Rattle.gixp_response.specs.Answer.{update_items}
use Rattle.gixp_refmap.specs.declared.fetch.Tags.TheVariants as tags
use Rattle.gixp_fetch.specs.FetchShallow.{ShallowValue, no_change}
use Rattle.gixp_fetch.specs.Fetch.{World, Parties}
use Rattle.gixp_fetch.specs.Fetched.{FetchCall, Fetches}
use Rattle.gixp_planner.specs.declared.error.PlanError.{PlanError}
use Rattle.gixp_planner.specs.Refusal.{PlanRefusal}
use Rattle.gixp_planner.specs.Written.{WritesPlan}
use Rattle.gixp_planner.specs.Specs.{IsContext}
use Rattle.gixp_planner.specs.Text.{course_shown, course_of, ended_of, requests_shown, mapped_shown, end_shown}
use Rattle.gixp_handshake.specs.WithoutAccount.{AreUnanswered, GreetsWithoutAccount}
use Rattle.gixp_planner.specs.Session.{planner_agent, MapsRefs, Carries, FetchesOver, Runs, fetched, end_of, end_counted}
use Rattle.gixp_planner.specs.PlannedText.{IsCourse, Shows, IsOutcome}

-- where each call answers that there is no account, all did
pub unanswered : {A : Type 0} (asks : A → Action → CredentialAnswer → A → Type 0)
    → ((a : A) (x : Action) (r : CredentialAnswer) (b : A) → asks a x r b → r ≡ Ok None) → (old new : A) (turns : List CredentialCall)
    → MakesCredentialCalls asks old turns new → AreUnanswered turns
unanswered asks h old new [] k = tt
unanswered asks h old new (t ∷ ts) k = (h old t.action t.answer k.0 k.1, unanswered asks h k.0 new ts k.2)

-- the ref map of the server, by the planner's table and its name
pub maps-refs : (context : Context) (h : Handshake) (plain : Bool) (old new : Reading) (table : TableValue) (agent : FeatureValue)
    → table ≡ git_table → agent ≡ planner_agent → (r : Result RefMap MapError)
    → ObtainsMappings table agent context h plain old new r → MapsRefs context h plain old new r
maps-refs context h plain old new table agent e f (Ok m) o =
    subst (λ t. ObtainsMappings t planner_agent context h plain old new (Ok m)) e
    (subst (λ a. ObtainsMappings table a context h plain old new (Ok m)) f o)
maps-refs context h plain old new table agent e f (Err x) o =
    inl (subst (λ t. ObtainsMappings t planner_agent context h plain old new (Err x)) e
    (subst (λ a. ObtainsMappings table a context h plain old new (Err x)) f o))

-- what a fetch is handed in, by what the planner hands in
abbrev call_of : TableValue → FeatureValue → ShallowValue → Handshake → FetchCall
call_of table agent shallow h = record {
  table = table;
  version = h.server_protocol_version;
  capabilities = h.capabilities;
  agent = agent;
  more = [];
  tags = tags.None;
  fetch_options = record { shallow = shallow; reported = update_items h.v1_shallow_updates; reject = false };
}

module _ {N I A S C P X : Type 0} (parties : Parties N I A S C P X) (h : Handshake) (first : World N I S C)
    (r : Result (Option Outcome) (FetchError A X)) (last : World N I S C) (progress : P) where
  -- a fetch of the planner, by its table, its name and that the boundary stays
  pub carries : (table : TableValue) (agent : FeatureValue) (shallow : ShallowValue) → table ≡ git_table → agent ≡ planner_agent
      → shallow ≡ no_change
      → Fetches parties (call_of table agent shallow h) first r last progress → Carries parties h first r last progress
  carries table agent shallow e f k it = record {
    fetched =
        subst (λ t. Fetches parties (call_of t planner_agent no_change h) first r last progress) e
        (subst (λ a. Fetches parties (call_of table a no_change h) first r last progress) f
        (subst (λ s. Fetches parties (call_of table agent s h) first r last progress) k it));
  }

  -- over a negotiation and a store that are so
  pub fetches-over : (IsOver : N → Type 0) (IsEmpty : S → Type 0) (old new : Reading) → Carries parties h first r last progress
      → IsOver first.negotiate → IsEmpty first.store → first.locked ≡ false → first.reading ≡ old
      → last.reading ≡ new → FetchesOver parties IsOver IsEmpty h old new r
  fetches-over IsOver IsEmpty old new it over empty unlocked begins ends = record {
    first = first;
    last = last;
    progress = progress;
    over = over;
    empty = empty;
    unlocked = unlocked;
    begins = begins;
    ends = ends;
    fetched = it;
  }

module _ {A X : Type 0} (Receives : RefMap → Handshake → Reading → Reading → Result (Option Outcome) (FetchError A X) → Type 0) where
  -- all three steps
  pub ran : (context : Context) (plain : Bool) (old mid following new : Reading) (h k : Handshake) (m : RefMap)
      (r : Result (Option Outcome) (FetchError A X)) (mapped : Option RefMap) (ended : Result Bool PlanRefusal)
      → GreetsWithoutAccount plain old mid (Ok h) → MapsRefs context h plain mid following (Ok m) → k ≡ without_refs h
      → Receives m k following new r → mapped ≡ Some m → ended ≡ end_of r → Runs Receives context plain old new mapped ended
  ran context plain old mid following new h k m r mapped ended g l e f p q =
      fetched h mid following m r g l (subst (λ x. Receives m x following new r) e f) p q

  -- a session over new bodies
  pub is-course : (bodies : List Body) (specs : List (List ℕ)) (context : Context) (transport : Bodies) (last : Reading) (url : List ℕ)
      (versions : List Protocol) (requests : List (Vec ℕ Global)) (mapped : Option RefMap)
      (failures : ℕ) (ran ended : Result Bool PlanError) → IsContext specs context → url ≡ [] → versions ≡ []
      → IsNewBodies bodies url versions transport
      → Runs Receives context true (bodies_reading transport) last mapped (ended_of ran) → failures ≡ last.failures
      → ended_of ended ≡ end_counted failures (ended_of ran) → map vec_items requests ≡ last.held.sent
      → IsCourse Receives bodies specs (course_of requests mapped ended)
  is-course bodies specs context transport last url versions requests mapped failures ran ended c e f n r l k s = record {
    context = context;
    transport = transport;
    last = last;
    ran = ended_of ran;
    read = c;
    over = subst (λ u. IsNewBodies bodies u [] transport) e (subst (λ v. IsNewBodies bodies url v transport) f n);
    runs = r;
    ended = k ∙ ap (λ n. end_counted n (ended_of ran)) l;
    sent = sym s;
  }

-- its text, and its refusal
shows : (old new : Option (List ℕ)) (requests : List (Vec ℕ Global)) (mapped : Option RefMap) (ended : Result Bool PlanError)
    (written r : Result (Unit {0}) PlanError)
    → WritesPlan old new (course_shown (course_of requests mapped ended)) written → IsOutcome written ended r
    → Shows old new (course_of requests mapped ended) r
shows old new requests mapped ended (Err e) r w o = subst (Shows old new (course_of requests mapped ended)) (sym o) (inr w)
shows old new requests mapped (Err e) (Ok x) r w o = subst (Shows old new (course_of requests mapped (Err e))) (sym o) (inl (w, refl))
shows old new requests mapped (Ok pack) (Ok x) r w o = subst (Shows old new (course_of requests mapped (Ok pack))) (sym o) (w, refl)

-- the same, by what was written of the ref map
pub shows_printed : (old new : Option (List ℕ)) (requests : List (Vec ℕ Global)) (mapped : Option RefMap) (ended : Result Bool PlanError)
    (text : List ℕ) (written r : Result (Unit {0}) PlanError) → text ≡ mapped_shown mapped
    → WritesPlan old new (requests_shown (map vec_items requests) ++ text ++ end_shown (ended_of ended)) written
    → IsOutcome written ended r → Shows old new (course_of requests mapped ended) r
shows_printed old new requests mapped ended text written r e w o = shows old new requests mapped ended written r
    (subst (λ t. WritesPlan old new (requests_shown (map vec_items requests) ++ t ++ end_shown (ended_of ended)) written) e w) o
