-- Two sessions over the same bodies, whose negotiators offer the same list, that came to their ends: all that they send and print is
-- the same.
use Rattle.std.proofs.Common.{◌≡◌, ℕ, Bool, true, List, [], ◌++◌, codes, Option, Some, None, Result, Ok, Err, ◌⊎◌, inl, inr, refl, sym, ap, ◌∙◌, subst}
use Rattle.std.specs.Prelude.{IsOk}
use Rattle.std.specs.Io.KnownBytes.{Appends, Keeps}
use Rattle.gixp_transport.specs.declared.bodies.Body.{Body}
use Rattle.gixp_hash.specs.declared.object_id.ObjectId.{ObjectId}
use Rattle.gixp_transport.specs.Bodies.{bodies_reading}
use Rattle.gixp_packetline.specs.Reading.{Reading}
use Rattle.gixp_packetline.specs.TransportState.{TransportState}
use Rattle.gixp_refmap.specs.declared.refmap.map.RefMap.{RefMap}
use Rattle.gixp_handshake.specs.Taken.{without_refs}
use Rattle.gixp_fetch.specs.declared.options.Outcome.{Outcome}
use Rattle.gixp_fetch.specs.Fetch.{Parties}
use Rattle.gixp_fetch.specs.declared.error.Error.{Error as FetchError}
use Rattle.gixp_handshake.specs.declared.handshake.read.Handshake.{Handshake}
use Rattle.gixp_refspec.specs.declared.parse.Error.{Error as SpecError}
use Rattle.gixp_refspec.specs.Spec.{Spec}
use Rattle.gixp_planner.specs.declared.error.PlanError.{PlanError}
use Rattle.gixp_planner.specs.Refusal.{PlanRefusal, refusal, spec_name, handshake_name, map_name, fetch_name, IsPlanMemory}
use Rattle.gixp_planner.specs.Specs.{specs_of, RefusesSpecs}
use Rattle.gixp_planner.specs.Text.{Course, requests_shown, mapped_shown, end_shown, course_shown}
use Rattle.gixp_planner.specs.Session.{FetchesMapped, Runs, ungreeted, unmapped, fetched, end_of}
use Rattle.gixp_planner.specs.PlannedText.{PlannedText, shown, refused}
use Rattle.gixp_planner.specs.Mapped.{IsMapped}
use Rattle.gixp_planner.specs.Follows.{AsksAfterMap, AreSame, RefusedForSpec, EndsSession, IsWritten, Follow}
use Rattle.gixp_planner.proofs.RefusedLemmas.{planned-ungreeted}
use Rattle.gixp_planner.proofs.SeenLemmas.{LookAlike}
use Rattle.gixp_planner.proofs.MappedLemmas.{HoldAlike, hold-alike, SameGreeting, SameMap, both-greet, both-alike, not-ok, EndedWhole, ended-whole}
use Rattle.gixp_planner.proofs.WantLemmas.{Basis, SameBasis}
use Rattle.gixp_planner.proofs.CountLemmas.{CountsNone}
use Rattle.gixp_planner.proofs.FetchLemmas.{OffersList, not-refused-ok, came_to, Received, came, ends-same, sent-same, asked-following}

-- ---- a session

end-came : (A X : Type 0) (o : Option Outcome) → end_of {A = A} {X = X} (Ok o) ≡ came_to o
end-came A X (Some out) = refl
end-came A X None = refl

-- what came to its end wasn't refused
not-refused : (ended : Result Bool PlanRefusal) (e : PlanRefusal) → IsOk ended → ended ≡ Err e → ⊥
not-refused ended e k f = not-ok e (subst (λ (r : Result Bool PlanRefusal). IsOk r) f k)

-- ---- a refspec that is refused

abbrev read_as : List Spec → Result (List Spec) SpecError
read_as specs = Ok specs

abbrev unread_for : SpecError → Result (List Spec) SpecError
unread_for e = Err e

read-or-refused : (specs : List Spec) (e : SpecError) → read_as specs ≡ unread_for e → ⊥
read-or-refused specs e h = cc

same-refusal : (e f : SpecError) → unread_for e ≡ unread_for f → e ≡ f
same-refusal e f h = cc

refused-so : (specs : List (List ℕ)) (error : SpecError) (e : PlanError) → specs_of specs ≡ Err error → RefusesSpecs specs e
    ⊎ IsPlanMemory (codes "file") e → RefusedForSpec error (Err e)
refused-so specs error e q (inl (inl k)) = inl (k.2 ∙ ap (λ x. refusal (codes "spec") (spec_name x)) (same-refusal k.0 error (sym k.1 ∙ q)))
refused-so specs error e q (inl (inr k)) = inr (inl k)
refused-so specs error e q (inr k) = inr (inr k)

module _ {A X : Type 0} (Receives : RefMap → Handshake → Reading → Reading → Result (Option Outcome) (FetchError A X) → Type 0)
    (bodies : List Body) (specs : List (List ℕ)) where
  spec-refused : (error : SpecError) → specs_of specs ≡ Err error → (old new : Option (List ℕ)) (r : Result (Unit {0}) PlanError)
      → PlannedText Receives bodies specs old new r → Keeps old new × RefusedForSpec error r
  spec-refused error q old new r (shown course i s) = absurd (read-or-refused _ error (sym i.read.specs ∙ q))
  spec-refused error q old new r (refused e p why keeps) = (keeps, subst (RefusedForSpec error) (sym p) (refused-so specs error e q why))

module _ {N I A S C P X : Type 0} (parties : Parties N I A S C P X) (basis : N → Basis) (haves : N → List ObjectId)
    (list : OffersList parties.negotiation_calls basis haves) (IsOne IsOther : RefMap → N → Type 0) (IsEmpty : S → Type 0)
    (reads : (s : S) (ids : List ObjectId) (t : S) → IsEmpty s → parties.store_calls.reads s ids t → ids ≡ [])
    (ids : List ObjectId) (same : (m k : RefMap) (n o : N) → IsOne m n → IsOther k o → LookAlike m.mappings.items k.mappings.items
    → SameBasis (basis n) (basis o) × (haves n ≡ ids) × (haves o ≡ ids))
    (none : CountsNone parties.consumes) (bodies : List Body) (specs : List (List ℕ)) where
  -- it came to its ref map, and its fetch to an end
  record Arrived (IsOver : RefMap → N → Type 0) (course : Course) : Type 0 where
    sent : List (List ℕ)
    made : RefMap
    mapped : IsMapped bodies specs sent made
    last : Reading
    outcome : Option Outcome
    negotiate : N
    over : IsOver made negotiate
    came : Received parties basis haves list IsEmpty reads none mapped.handshake.server_protocol_version mapped.handshake.capabilities
        negotiate mapped.following last outcome
    ends : last.held.sent ≡ course.sent
    maps : course.mapped ≡ Some made
    ended : course.ended ≡ came_to outcome
    uncounted : last.failures ≡ 0

  arrived : (IsOver : RefMap → N → Type 0) (course : Course) → EndsSession parties IsOver IsEmpty bodies specs course
      → Arrived IsOver course
  arrived IsOver course s = by_run s.0.ran s.0.runs (ended-whole s.0.last.failures s.0.ran course.ended s.0.ended s.1)
    where
      by_run : (ran : Result Bool PlanRefusal) → Runs (λ m h from to r. FetchesMapped parties
          (IsOver m) IsEmpty h from to r) s.0.context true (bodies_reading s.0.transport) s.0.last course.mapped ran
          → EndedWhole s.0.last.failures ran course.ended → Arrived IsOver course
      by_run ran (ungreeted e g m f) k = absurd (not-refused ran (refusal (codes "handshake") (handshake_name e)) k.whole f)
      by_run ran (unmapped h mid e g l m f) k = absurd (not-refused ran (refusal (codes "refs") (map_name e)) k.whole f)
      by_run ran (fetched h mid following m (Err e) g l t p f) k = absurd (not-refused ran (refusal (codes "fetch") (fetch_name e)) k.whole f)
      by_run ran (fetched h mid following m (Ok o) g l t p f) k =
          let c = came parties basis haves list IsEmpty reads none (IsOver m) (without_refs h) following s.0.last o t in
          record {
            sent = following.held.sent;
            made = m;
            mapped = record {
              context = s.0.context;
              transport = s.0.transport;
              handshake = h;
              mid = mid;
              following = following;
              read = s.0.read;
              over = s.0.over;
              greets = g;
              maps = l;
              by_then = refl;
            };
            last = s.0.last;
            outcome = o;
            negotiate = c.0;
            over = c.1;
            came = c.2;
            ends = s.0.sent;
            maps = p;
            ended = k.same ∙ f ∙ end-came A X o;
            uncounted = k.uncounted;
          }

  -- ---- two sessions

  module _ (c d : Course) (x : Arrived IsOne c) (y : Arrived IsOther d) where
    greet : SameGreeting x.mapped.mid y.mapped.mid x.mapped.handshake y.mapped.handshake
    greet = both-greet bodies specs x.sent y.sent x.made y.made x.mapped y.mapped

    maps-same : SameMap x.mapped.following y.mapped.following x.made y.made
    maps-same = both-alike bodies specs x.sent y.sent x.made y.made x.mapped y.mapped

    basis-same : SameBasis (basis x.negotiate) (basis y.negotiate) × (haves x.negotiate ≡ ids) × (haves y.negotiate ≡ ids)
    basis-same = same x.made y.made x.negotiate y.negotiate x.over y.over maps-same.mappings

    haves-same : haves x.negotiate ≡ haves y.negotiate
    haves-same = basis-same.1 ∙ sym basis-same.2

    hold : HoldAlike x.mapped.following y.mapped.following
    hold = hold-alike x.mapped.following y.mapped.following maps-same.alike

    came-same : Received parties basis haves list IsEmpty reads none x.mapped.handshake.server_protocol_version
        x.mapped.handshake.capabilities y.negotiate y.mapped.following y.last y.outcome
    came-same =
        subst (λ v. Received parties basis haves list IsEmpty reads none v x.mapped.handshake.capabilities y.negotiate y.mapped.following
        y.last y.outcome) (sym greet.version)
        (subst (λ k. Received parties basis haves list IsEmpty reads none y.mapped.handshake.server_protocol_version k y.negotiate
        y.mapped.following y.last y.outcome) (sym greet.capabilities) y.came)

    held-same : x.last.held ≡ y.last.held
    held-same =
        sent-same parties basis haves list IsEmpty reads none x.mapped.handshake.server_protocol_version x.mapped.handshake.capabilities
        x.negotiate y.negotiate x.mapped.following y.mapped.following x.last y.last basis-same.0 haves-same hold
        x.uncounted y.uncounted x.outcome y.outcome x.came came-same

    asked : AsksAfterMap c.ended x.sent c.sent
    asked =
        let a =
        asked-following parties basis haves list IsEmpty reads none x.mapped.handshake.server_protocol_version
        x.mapped.handshake.capabilities x.negotiate x.mapped.following x.last hold.alone x.outcome x.came in
        subst (λ e. AsksAfterMap e x.sent c.sent) (sym x.ended)
        (subst (λ s. AsksAfterMap (came_to x.outcome) s c.sent) x.mapped.by_then
        (subst (λ s. AsksAfterMap (came_to x.outcome) x.mapped.following.held.sent s) x.ends a))

    are-same : AreSame bodies specs c d
    are-same =
        let sent : c.sent ≡ d.sent = sym x.ends ∙ ap (λ (z : TransportState). z.sent) held-same ∙ y.ends in
        let ended : c.ended ≡ d.ended =
        x.ended
        ∙ ends-same parties basis haves list IsEmpty reads none x.mapped.handshake.server_protocol_version
        x.mapped.handshake.capabilities x.negotiate y.negotiate x.mapped.following y.mapped.following x.last y.last basis-same.0
        haves-same
        hold x.outcome y.outcome x.came came-same
        ∙ sym y.ended in
        let printed : mapped_shown c.mapped ≡ mapped_shown d.mapped = ap mapped_shown x.maps ∙ maps-same.shown
        ∙ sym (ap mapped_shown y.maps) in
        record {
          sent = sent;
          ended = ended;
          printed = printed;
          shown =
              ap (λ s. requests_shown s ++ mapped_shown c.mapped ++ end_shown c.ended) sent
              ∙ ap (λ t. requests_shown d.sent ++ t ++ end_shown c.ended) printed
              ∙ ap (λ e. requests_shown d.sent ++ mapped_shown d.mapped ++ end_shown e) ended;
          mapping = x.sent;
          made = x.made;
          mapped = x.mapped;
          asked = asked;
        }

  text-same : ((c d : Course) → EndsSession parties IsOne IsEmpty bodies specs c → EndsSession parties IsOther IsEmpty bodies specs d
      → course_shown c ≡ course_shown d) → (old new from to : Option (List ℕ))
      → IsWritten parties IsOne IsEmpty bodies specs old new → IsWritten parties IsOther IsEmpty bodies specs from to
      → (written : List ℕ) × Appends old new written × Appends from to written
  text-same law old new from to (shown c i s) (shown d j t) =
      (course_shown c, s.0, subst (λ w. Appends from to w) (sym (law c d (i, s.1) (j, t.1))) t.0)
  text-same law old new from to (refused e r why k) b = absurd (not-refused-ok _ _ r)
  text-same law old new from to (shown c i s) (refused e r why k) = absurd (not-refused-ok _ _ r)

  pub follow : Follow parties IsOne IsOther IsEmpty bodies specs
  follow = record {
    session = λ c d i j. are-same c d (arrived IsOne c i) (arrived IsOther d j);
    text = text-same (λ c d i j. (are-same c d (arrived IsOne c i) (arrived IsOther d j)).shown);
    no_specs = spec-refused (λ m h from to x. FetchesMapped parties (IsOne m) IsEmpty h from to x) bodies specs;
    no_greeting = λ e q old new. planned-ungreeted
        (λ m h from to x. FetchesMapped parties (IsOne m) IsEmpty h from to x) bodies specs old new e q;
  }
