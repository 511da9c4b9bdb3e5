-- A session whose handshake was refused sent nothing, so nothing is written of it.
use Rattle.std.proofs.Common.{◌≡◌, ◌⊎◌, ℕ, Bool, true, false, List, [], ◌++◌, codes, Option, Some, None, Result, Ok, Err, inl, inr, refl, sym, ap, ◌∙◌, subst}
use Rattle.std.specs.Prelude.{◌==◌, if◌then◌else◌}
use Rattle.std.specs.Io.KnownBytes.{Appends}
use Rattle.gixp_transport.specs.declared.service.Service.TheVariants.{UploadPack}
use Rattle.gixp_transport.specs.declared.service.SetServiceResponse.{SetServiceResponse}
use Rattle.gixp_capabilities.specs.declared.client.Error.{Error as client_error}
use Rattle.gixp_transport.specs.declared.bodies.Body.{Body}
use Rattle.gixp_transport.specs.Bodies.{bodies_reading}
use Rattle.gixp_packetline.specs.TransportState.{TransportState}
use Rattle.gixp_packetline.specs.Reading.{Reading}
use Rattle.gixp_transport.specs.Handshake.{HandshakesBy}
use Rattle.gixp_transport.specs.CapabilityAdvertisement.{advertisement, TakesFirst, Advertises}
use Rattle.gixp_transport.specs.Transport.{TakesAnswer}
use Rattle.gixp_handshake.specs.declared.handshake.error.Error.{Error as HandshakeError}
use Rattle.gixp_handshake.specs.declared.handshake.read.Handshake.{Handshake}
use Rattle.gixp_handshake.specs.Shake.{CredentialCall, OpeningResult, Got, StopsForMemory, Denied, First, Opens}
use Rattle.gixp_handshake.specs.ShakeError.{is_denied}
use Rattle.gixp_fetch.specs.declared.error.Error.{Error as FetchError}
use Rattle.gixp_fetch.specs.declared.options.Outcome.{Outcome}
use Rattle.gixp_refmap.specs.declared.refmap.map.RefMap.{RefMap}
use Rattle.gixp_planner.specs.declared.error.PlanError.{PlanError}
use Rattle.gixp_planner.specs.Refusal.{PlanRefusal, refusal, refusal_of}
use Rattle.gixp_planner.specs.Text.{Course, requests_shown, mapped_shown, end_shown}
use Rattle.gixp_handshake.specs.WithoutAccount.{AreUnanswered, GreetsWithoutAccount}
use Rattle.gixp_planner.specs.Session.{Runs, ungreeted, unmapped, fetched, end_of, end_counted}
use Rattle.gixp_planner.specs.PlannedText.{IsCourse, Shows, PlannedText, shown, refused}
use Rattle.gixp_planner.proofs.StepLemmas.{other-step, not-unwritten, not-begun, f-not-n, l-not-n, e-not-n, t-not-n}
use Rattle.gixp_planner.proofs.MappedLemmas.{step-before}

-- ---- a handshake sends nothing over recorded answers

abbrev SentAlike : Reading → Reading → Type 0
SentAlike old new = new.held.sent ≡ old.held.sent

held-sent : (old new : Reading) → new.held ≡ old.held → SentAlike old new
held-sent old new e = ap (λ (x : TransportState). x.sent) e

stood-sent : (old new : Reading) → new ≡ old → SentAlike old new
stood-sent old new e = ap (λ (r : Reading). r.held.sent) e

taken-sent : (old new : Reading) → TakesAnswer old new → SentAlike old new
taken-sent old new t = ap (λ (x : TransportState). x.sent) t.held

advertised-sent : (old new : Reading) (r : Result SetServiceResponse client_error) → Advertises advertisement TakesFirst old new r
    → SentAlike old new
advertised-sent old new (Ok found) a = held-sent old new a.held
advertised-sent old new (Err e) a = held-sent old new a.held

shaken-sent : (persists : Bool) (old new : Reading) (r : Result SetServiceResponse client_error) → persists ≡ false
    → HandshakesBy persists UploadPack [] old new r → SentAlike old new
shaken-sent true old new r e h = cc e
shaken-sent false old new r e (inl h) = taken-sent old new h.2
shaken-sent false old new r e (inr h) = advertised-sent h.0 new r h.3 ∙ taken-sent old h.0 h.1

denied-sent : (denied : Bool) (e : client_error) (mid new : Reading) (turns : List CredentialCall) (r : OpeningResult)
    → AreUnanswered turns → Denied denied e UploadPack [] mid new turns r → SentAlike mid new
denied-sent false e mid new turns r u d = stood-sent mid new d.1
denied-sent true e mid new turns r u (inr n) = stood-sent mid new n.same
denied-sent true e mid new turns r u (inl l) =
    let answered = subst AreUnanswered l.all u in
    let got : Got UploadPack [] (Ok None) mid.held.url mid new l.later r =
    subst (λ a. Got UploadPack [] a mid.held.url mid new l.later r) answered.0 l.got in
    stood-sent mid new got.1

first-sent : (first : Result SetServiceResponse client_error) (mid new : Reading) (turns : List CredentialCall) (r : OpeningResult)
    → AreUnanswered turns → First first UploadPack [] mid new turns r → SentAlike mid new
first-sent (Ok found) mid new turns r u f = stood-sent mid new f.1
first-sent (Err e) mid new turns r u f = denied-sent (is_denied e) e mid new turns r u f

opened-sent : (old mid : Reading) (turns : List CredentialCall) (r : OpeningResult) → old.held.persists ≡ false → AreUnanswered turns
    → Opens UploadPack [] old mid turns r ⊎ StopsForMemory old mid turns r → SentAlike old mid
opened-sent old mid turns r p u (inr n) = stood-sent old mid n.same
opened-sent old mid turns r p u (inl o) = first-sent o.0 o.1 mid turns r u o.3 ∙ shaken-sent old.held.persists old o.1 o.0 p o.2

pub greeting-sent : (plain : Bool) (old new : Reading) (r : Result Handshake HandshakeError) → old.held.persists ≡ false
    → GreetsWithoutAccount plain old new r → SentAlike old new
greeting-sent plain old new r p g = held-sent g.shakes.mid new g.shakes.held
    ∙ opened-sent old g.shakes.mid g.turns g.shakes.opened p g.unanswered g.shakes.opens

-- ---- what is written of it

abbrev ends_refused : PlanRefusal → Result Bool PlanRefusal
ends_refused e = Err e

abbrev ends_in : Bool → Result Bool PlanRefusal
ends_in pack = Ok pack

refused-or-in : (e : PlanRefusal) (pack : Bool) → ends_refused e ≡ ends_in pack → ⊥
refused-or-in e pack h = cc

same-refused : (e f : PlanRefusal) → ends_refused e ≡ ends_refused f → e ≡ f
same-refused e f h = cc

-- a session whose fetch came to its end is refused, if at all, as a fetch
counted-step : (uncounted pack : Bool) (e : PlanRefusal) → ends_refused e
    ≡ (if uncounted then ends_in pack else ends_refused (refusal (codes "fetch") (codes "FetchResponse"))) → e.step ≡ codes "fetch"
counted-step true pack e h = absurd (refused-or-in e pack h)
counted-step false pack e h = ap (λ (r : PlanRefusal). r.step) (same-refused e (refusal (codes "fetch") (codes "FetchResponse")) h)

fetch-step : {A X : Type 0} (failures : ℕ) (r : Result (Option Outcome) (FetchError A X)) (ended : Result Bool PlanRefusal)
    (e : PlanRefusal) {ran : Result Bool PlanRefusal} → ended ≡ end_counted failures ran → ended ≡ Err e → ran ≡ end_of r
    → e.step ≡ codes "fetch"
fetch-step failures (Ok (Some outcome)) ended e h k f = counted-step (failures == 0) true e (sym k ∙ h ∙ ap (end_counted failures) f)
fetch-step failures (Ok None) ended e h k f = counted-step (failures == 0) false e (sym k ∙ h ∙ ap (end_counted failures) f)
fetch-step failures (Err x) ended e h k f = step-before failures _ ended e h k f

abbrev error_of : PlanError → Result (Unit {0}) PlanError
error_of e = Err e

same-error : (e f : PlanError) → error_of e ≡ error_of f → e ≡ f
same-error e f h = cc

module _ {A X : Type 0} (Receives : RefMap → Handshake → Reading → Reading → Result (Option Outcome) (FetchError A X) → Type 0)
    (bodies : List Body) (specs : List (List ℕ)) (old new : Option (List ℕ)) where
  shown-ungreeted : (e : PlanRefusal) → e.step ≡ codes "handshake" → (course : Course) (c : IsCourse Receives bodies specs course)
      → course.ended ≡ Err e
      → Runs Receives c.context true (bodies_reading c.transport) c.last course.mapped c.ran
      → Appends old new (requests_shown course.sent ++ mapped_shown course.mapped ++ end_shown course.ended) → Appends old new []
  shown-ungreeted e q course c k (ungreeted x g m f) w =
      let sent : course.sent ≡ [] = sym c.sent ∙ greeting-sent true (bodies_reading c.transport) c.last (Err x) refl g ∙ c.over.sent in
      subst (λ r. Appends old new ([] ++ [] ++ end_shown r)) k
      (subst (λ o. Appends old new ([] ++ mapped_shown o ++ end_shown course.ended)) m
      (subst (λ s. Appends old new (requests_shown s ++ mapped_shown course.mapped ++ end_shown course.ended)) sent w))
  shown-ungreeted e q course c k (unmapped h mid x g l m f) w =
      absurd (other-step (codes "handshake") (codes "refs") e q (step-before c.last.failures c.ran course.ended e c.ended k f) f-not-n)
  shown-ungreeted e q course c k (fetched h mid following m r g l t p f) w =
      absurd (other-step (codes "handshake") (codes "fetch") e q (fetch-step c.last.failures r course.ended e c.ended k f) t-not-n)

  shows-ungreeted : (e : PlanError) → e.step.now ≡ codes "handshake" → (course : Course) → IsCourse Receives bodies specs course
      → Shows old new course (Err e) → Appends old new []
  shows-ungreeted e q course c (inr u) = absurd (not-unwritten (codes "handshake") e q l-not-n u.1)
  shows-ungreeted e q course c (inl s) = shown-ungreeted (refusal_of e) q course c s.1 c.runs s.0

  pub planned-ungreeted : (e : PlanError) → e.step.now ≡ codes "handshake" → PlannedText Receives bodies specs old new (Err e)
      → Appends old new []
  planned-ungreeted e q (shown course c s) = shows-ungreeted e q course c s
  planned-ungreeted e q (refused x p why keeps) =
      absurd (not-begun (codes "handshake") x (ap (λ (y : PlanError). y.step.now) (sym (same-error e x p)) ∙ q) l-not-n specs e-not-n why)
