-- Two sessions over the same bodies, refused ones too, whose negotiators offer the same list: they go alike.
use Rattle.std.proofs.Common.{◌≡◌, ◌⊎◌, ℕ, Bool, true, List, [], ◌++◌, codes, Option, Some, None, Result, Ok, Err, inl, inr, refl, sym, ap, ◌∙◌, subst}
use Rattle.gixp_hash.specs.declared.object_id.ObjectId.{ObjectId}
use Rattle.gixp_packetline.specs.Reading.{Reading}
use Rattle.gixp_packetline.specs.TransportState.{TransportState}
use Rattle.gixp_transport.specs.declared.bodies.Body.{Body}
use Rattle.gixp_transport.specs.Bodies.{bodies_reading}
use Rattle.gixp_refspec.specs.declared.parse.Error.{Error as SpecError}
use Rattle.gixp_refspec.specs.Spec.{Spec}
use Rattle.gixp_refmap.specs.declared.refmap.map.RefMap.{RefMap}
use Rattle.gixp_refmap.specs.declared.refmap.init.Error.{Error as MapError}
use Rattle.gixp_refmap.specs.declared.refmap.init.Error.TheVariants as map
use Rattle.gixp_handshake.specs.declared.handshake.error.Error.{Error as HandshakeError}
use Rattle.gixp_handshake.specs.declared.handshake.error.Error.TheVariants as handshake
use Rattle.gixp_handshake.specs.declared.handshake.read.Handshake.{Handshake}
use Rattle.gixp_handshake.specs.Taken.{without_refs}
use Rattle.gixp_fetch.specs.declared.error.Error.{Error as FetchError}
use Rattle.gixp_fetch.specs.declared.error.Error.TheVariants as fetch
use Rattle.gixp_fetch.specs.declared.options.Outcome.{Outcome}
use Rattle.gixp_fetch.specs.declared.consume.copy.CopyError.{CopyError}
use Rattle.gixp_fetch.specs.Fetch.{Parties}
use Rattle.gixp_planner.specs.Refusal.{PlanRefusal, refusal, handshake_name, map_name}
use Rattle.gixp_planner.specs.Specs.{specs_of}
use Rattle.gixp_planner.specs.Text.{Course, requests_shown, mapped_shown, end_shown}
use Rattle.gixp_handshake.specs.WithoutAccount.{GreetsWithoutAccount}
use Rattle.gixp_planner.specs.Session.{MapsRefs, FetchesMapped, Runs, ungreeted, unmapped, fetched, end_of, end_counted}
use Rattle.gixp_planner.specs.Mapped.{IsMapped}
use Rattle.gixp_planner.specs.Discovered.{Discovery, discovery, IsDiscovered, first_pieces}
use Rattle.gixp_planner.specs.Sought.{sought, map_refusal, second_pieces, Plans}
use Rattle.gixp_planner.specs.Alike.{IsUndisturbed, EndsForMemory, GoAlike, GoesSteadily, CoursesFollow}
use Rattle.gixp_planner.proofs.SeenLemmas.{LookAlike}
use Rattle.gixp_planner.proofs.MappedLemmas.{hold-alike, SameGreeting, SameMap, both-greet, both-alike}
use Rattle.gixp_planner.proofs.RefusedLemmas.{greeting-sent}
use Rattle.gixp_planner.proofs.WantLemmas.{Basis, SameBasis}
use Rattle.gixp_planner.proofs.CountLemmas.{CountsNone}
use Rattle.gixp_planner.proofs.DiscoveredLemmas.{greetings-follow}
use Rattle.gixp_planner.proofs.SoughtLemmas.{planning, made-or-refused}
use Rattle.gixp_planner.proofs.FetchLemmas.{OffersList, bands}
use Rattle.gixp_planner.proofs.RefusedFetchLemmas.{Way, goes-way, ways-alike}
use Rattle.gixp_planner.proofs.PackEndLemmas.{FollowsPack}

-- without a counted failure a session ends as its steps do
uncounted : (ran : Result Bool PlanRefusal) → end_counted 0 ran ≡ ran
uncounted (Ok pack) = refl
uncounted (Err e) = refl

abbrev ok_said : Discovery → Result Discovery (List ℕ)
ok_said advertised = Ok advertised

abbrev err_said : List ℕ → Result Discovery (List ℕ)
err_said name = Err name

advertised-or-not : (d : Result Discovery (List ℕ)) (advertised : Discovery) (name : List ℕ) → d ≡ ok_said advertised → d ≡ err_said name → ⊥
advertised-or-not d advertised name e f = let q : ok_said advertised ≡ err_said name = sym e ∙ f in cc q

same-name : (d : Result Discovery (List ℕ)) (name other : List ℕ) → d ≡ err_said name → d ≡ err_said other → name ≡ other
same-name d name other e f = let q : err_said name ≡ err_said other = sym e ∙ f in cc q

same-advertised : (d : Result Discovery (List ℕ)) (advertised other : Discovery) → d ≡ ok_said advertised → d ≡ ok_said other → advertised ≡ other
same-advertised d advertised other e f = let q : ok_said advertised ≡ ok_said other = sym e ∙ f in cc q

abbrev ok_read : List Spec → Result (List Spec) SpecError
ok_read specs = Ok specs

same-read : (r : Result (List Spec) SpecError) (specs other : List Spec) → r ≡ ok_read specs → r ≡ ok_read other → specs ≡ other
same-read r specs other e f = let q : ok_read specs ≡ ok_read other = sym e ∙ f in cc q

abbrev some_name : List ℕ → Option (List ℕ)
some_name name = Some name

same-some : (o : Option (List ℕ)) (name other : List ℕ) → o ≡ some_name name → o ≡ some_name other → name ≡ other
same-some o name other e f = let q : some_name name ≡ some_name other = sym e ∙ f in cc q

some-or-none : (o : Option (List ℕ)) (name : List ℕ) → o ≡ some_name name → o ≡ None → ⊥
some-or-none o name e f = let q : some_name name ≡ None = sym e ∙ f in cc q

abbrev ends_refused : PlanRefusal → Result Bool PlanRefusal
ends_refused e = Err e

module _ (bodies : List Body) (words : List (List ℕ)) where
  -- what is asked of the refs, by what was said
  record Planned (advertised : Discovery) (specs : List Spec) : Type 0 where
    discovered : discovery [] (first_pieces bodies) ≡ Ok advertised
    read : specs_of words ≡ Ok specs

  abbrev requests_for : Discovery → List Spec → List (List ℕ)
  requests_for advertised specs = (sought advertised specs (second_pieces bodies)).requests

  abbrev refusal_for : Discovery → List Spec → Option (List ℕ)
  refusal_for advertised specs = map_refusal advertised.capabilities specs (sought advertised specs (second_pieces bodies)).refs

  planned-same : (advertised other : Discovery) (specs more : List Spec) → Planned advertised specs → Planned other more
      → (requests_for advertised specs ≡ requests_for other more) × (refusal_for advertised specs ≡ refusal_for other more)
  planned-same advertised other specs more p q =
      let d : advertised ≡ other = same-advertised (discovery [] (first_pieces bodies)) advertised other p.discovered q.discovered in
      let s : specs ≡ more = same-read (specs_of words) specs more p.read q.read in
      (ap (λ x. requests_for x specs) d ∙ ap (requests_for other) s, ap (λ x. refusal_for x specs) d ∙ ap (refusal_for other) s)

module _ {N I A S C P : Type 0} (parties : Parties N I A S C P CopyError) (basis : N → Basis) (haves : N → List ObjectId)
    (list : OffersList parties.negotiation_calls basis haves) (IsOne IsOther : RefMap → N → Type 0) (IsEmpty : S → Type 0)
    (reads : (s : S) (ids : List ObjectId) (t : S) → IsEmpty s → parties.store_calls.reads s ids t → ids ≡ [])
    (ids : List ObjectId) (same : (m k : RefMap) (n o : N) → IsOne m n → IsOther k o → LookAlike m.mappings.items k.mappings.items
    → SameBasis (basis n) (basis o) × (haves n ≡ ids) × (haves o ≡ ids))
    (none : CountsNone parties.consumes) (follows : FollowsPack parties.consumes)
    (never : ((i j : I) → parties.polls i true j → ⊥) × (parties.plain ≡ true))
    (bodies : List Body) (words : List (List ℕ)) where
  -- its fetch went a way
  record Fetched (IsOver : RefMap → N → Type 0) (course : Course) : Type 0 where
    sent : List (List ℕ)
    made : RefMap
    mapped : IsMapped bodies words sent made
    negotiate : N
    over : IsOver made negotiate
    last : Reading
    way : Way parties basis haves list IsEmpty reads none follows never mapped.handshake.server_protocol_version
        mapped.handshake.capabilities
        (bands mapped.handshake.server_protocol_version mapped.handshake.capabilities) negotiate mapped.following last course.ended
    ends : last.held.sent ≡ course.sent
    maps : course.mapped ≡ Some made

  -- how a session went, unless an allocation failed
  data Went (IsOver : RefMap → N → Type 0) (course : Course) : Type 0 where
    for_memory : EndsForMemory course.ended → Went IsOver course
    at_greeting : {name : List ℕ} → discovery [] (first_pieces bodies) ≡ Err name → course.sent ≡ [] → course.mapped ≡ None
        → course.ended ≡ Err (refusal (codes "handshake") name) → Went IsOver course
    at_map : {advertised : Discovery} {specs : List Spec} {name : List ℕ} → Planned bodies words advertised specs
        → refusal_for bodies words advertised specs ≡ Some name → course.sent ≡ requests_for bodies words advertised specs → course.mapped ≡ None
        → course.ended ≡ Err (refusal (codes "refs") name) → Went IsOver course
    to_fetch : {advertised : Discovery} {specs : List Spec} → Planned bodies words advertised specs → refusal_for bodies words advertised specs ≡ None
        → Fetched IsOver course → Went IsOver course

  module _ (IsOver : RefMap → N → Type 0) (course : Course) (g : GoesSteadily parties IsOver IsEmpty bodies words course) where
    ended-so : (ran : Result Bool PlanRefusal) → g.is_course.ran ≡ ran → course.ended ≡ ran
    ended-so ran q = g.is_course.ended ∙ ap (λ f. end_counted f g.is_course.ran) g.unfailed ∙ uncounted g.is_course.ran ∙ q

    ungreeted-so : (e : HandshakeError) → GreetsWithoutAccount true (bodies_reading g.is_course.transport) g.is_course.last (Err e)
        → course.mapped ≡ None → course.ended ≡ Err (refusal (codes "handshake") (handshake_name e)) → Went IsOver course
    ungreeted-so e h m f =
        by (discovery [] (first_pieces bodies)) refl
        (greetings-follow bodies (Err e) (record {
          transport = g.is_course.transport;
          last = g.is_course.last;
          over = g.is_course.over;
          greets = h;
          unfailed = g.unfailed;
        }))
      where
        remembered : e ≡ handshake.Memory → Went IsOver course
        remembered q = for_memory (codes "handshake", f ∙ ap (λ x. ends_refused (refusal (codes "handshake") (handshake_name x))) q)

        by : (d : Result Discovery (List ℕ)) → discovery [] (first_pieces bodies) ≡ d → IsDiscovered d (Err e) → Went IsOver course
        by (Ok advertised) q i = remembered i
        by (Err name) q (inr i) = remembered i
        by (Err name) q (inl i) =
            at_greeting q (sym g.is_course.sent ∙ greeting-sent true (bodies_reading g.is_course.transport) g.is_course.last
            (Err e) refl h ∙ g.is_course.over.sent) m (f ∙ ap (λ x. ends_refused (refusal (codes "handshake") x)) i)

    unmapped-so : (h : Handshake) (mid : Reading) (e : MapError) → GreetsWithoutAccount true (bodies_reading g.is_course.transport) mid
        (Ok h) → MapsRefs g.is_course.context h true mid g.is_course.last (Err e) → course.mapped ≡ None
        → course.ended ≡ Err (refusal (codes "refs") (map_name e)) → Went IsOver course
    unmapped-so h mid e k l m f =
        by (planning bodies words
        (Err e) g.is_course.context g.is_course.transport h mid g.is_course.last g.is_course.read g.is_course.over k l
        (λ x q. g.unfailed)).plans
      where
        by : Plans bodies words g.is_course.last.held.sent (Err e) → Went IsOver course
        by p = at p.ends
          where
            at : ((refusal_for bodies words p.advertised p.specs ≡ Some (map_name e))
                × (g.is_course.last.held.sent ≡ requests_for bodies words p.advertised p.specs)) ⊎ (e ≡ map.Memory) → Went IsOver course
            at (inr q) = for_memory (codes "refs", f ∙ ap (λ x. ends_refused (refusal (codes "refs") (map_name x))) q)
            at (inl q) = at_map (record { discovered = p.discovered; read = p.read }) q.0 (sym g.is_course.sent ∙ q.1) m f

    fetched-so : (h : Handshake) (mid following : Reading) (m : RefMap) (r : Result (Option Outcome) (FetchError A CopyError))
        → GreetsWithoutAccount true (bodies_reading g.is_course.transport) mid (Ok h)
        → MapsRefs g.is_course.context h true mid following (Ok m) → FetchesMapped parties (IsOver m) IsEmpty
        (without_refs h) following g.is_course.last r → IsUndisturbed r → course.mapped ≡ Some m → course.ended ≡ end_of r
        → Went IsOver course
    fetched-so h mid following m r k l t u p f =
        let mapped : IsMapped bodies words following.held.sent m =
        record {
          context = g.is_course.context;
          transport = g.is_course.transport;
          handshake = h;
          mid = mid;
          following = following;
          read = g.is_course.read;
          over = g.is_course.over;
          greets = k;
          maps = l;
          by_then = refl;
        } in
        at (goes-way parties basis haves list IsEmpty reads none follows never (IsOver m) (without_refs h) following g.is_course.last
        (both-alike bodies words following.held.sent following.held.sent m m mapped mapped).alike.alone g.unfailed r u t)
      where
        plans : Plans bodies words following.held.sent (Ok m)
        plans =
            (planning bodies words (Ok m) g.is_course.context g.is_course.transport h mid following g.is_course.read g.is_course.over k l
            (λ e q. absurd (made-or-refused m e q))).plans

        at : (r ≡ Err fetch.Memory)
            ⊎ ((n : N) × IsOver m n
            × Way parties basis haves list IsEmpty reads none follows never h.server_protocol_version h.capabilities
            (bands h.server_protocol_version h.capabilities) n following g.is_course.last (end_of r)) → Went IsOver course
        at (inl q) = for_memory (codes "fetch", f ∙ ap (λ (x : Result (Option Outcome) (FetchError A CopyError)). end_of x) q)
        at (inr w) =
            to_fetch (record { discovered = plans.discovered; read = plans.read }) plans.ends.0
            (record {
              sent = following.held.sent;
              made = m;
              mapped = record {
                context = g.is_course.context;
                transport = g.is_course.transport;
                handshake = h;
                mid = mid;
                following = following;
                read = g.is_course.read;
                over = g.is_course.over;
                greets = k;
                maps = l;
                by_then = refl;
              };
              negotiate = w.0;
              over = w.1;
              last = g.is_course.last;
              way =
                  subst (λ x. Way parties basis haves list IsEmpty reads none follows never h.server_protocol_version
                  h.capabilities (bands h.server_protocol_version h.capabilities) w.0 following g.is_course.last x) (sym f) w.2;
              ends = g.is_course.sent;
              maps = p;
            })

    went : Went IsOver course
    went = by g.is_course.ran refl g.is_course.runs
      where
        by : (ran : Result Bool PlanRefusal) → g.is_course.ran ≡ ran
            → Runs (λ m h from to r. FetchesMapped parties (IsOver m) IsEmpty h from to r × IsUndisturbed r) g.is_course.context true
            (bodies_reading g.is_course.transport) g.is_course.last course.mapped ran → Went IsOver course
        by ran q (ungreeted e h m f) = ungreeted-so e h m (ended-so ran q ∙ f)
        by ran q (unmapped h mid e k l m f) = unmapped-so h mid e k l m (ended-so ran q ∙ f)
        by ran q (fetched h mid following m r k l t p f) = fetched-so h mid following m r k l t.0 t.1 p (ended-so ran q ∙ f)

  -- ---- two sessions

  alike-by : (c d : Course) → c.sent ≡ d.sent → mapped_shown c.mapped ≡ mapped_shown d.mapped → c.ended ≡ d.ended → GoAlike c d
  alike-by c d s p e = record {
    sent = s;
    printed = p;
    ended = e;
    shown =
        ap (λ x. requests_shown x ++ mapped_shown c.mapped ++ end_shown c.ended) s ∙ ap (λ t. requests_shown d.sent ++ t
        ++ end_shown c.ended) p ∙ ap (λ x. requests_shown d.sent ++ mapped_shown d.mapped ++ end_shown x) e;
  }

  fetched-alike : (c d : Course) → Fetched IsOne c → Fetched IsOther d → GoAlike c d
  fetched-alike c d x y =
      let greet : SameGreeting x.mapped.mid y.mapped.mid x.mapped.handshake y.mapped.handshake =
      both-greet bodies words x.sent y.sent x.made y.made x.mapped y.mapped in
      let maps : SameMap x.mapped.following y.mapped.following x.made y.made =
      both-alike bodies words x.sent y.sent x.made y.made x.mapped y.mapped in
      let base = same x.made y.made x.negotiate y.negotiate x.over y.over maps.mappings in
      let v = x.mapped.handshake.server_protocol_version in
      let other : Way parties basis haves list IsEmpty reads none follows never v x.mapped.handshake.capabilities
      (bands v x.mapped.handshake.capabilities) y.negotiate y.mapped.following y.last d.ended =
      subst (λ w. Way parties basis haves list IsEmpty reads none follows never w x.mapped.handshake.capabilities
      (bands w x.mapped.handshake.capabilities) y.negotiate y.mapped.following y.last d.ended) (sym greet.version)
      (subst (λ k. Way parties basis haves list IsEmpty reads none follows never y.mapped.handshake.server_protocol_version k
      (bands y.mapped.handshake.server_protocol_version k) y.negotiate y.mapped.following y.last d.ended)
      (sym greet.capabilities) y.way) in
      let ends =
      ways-alike parties basis haves list IsEmpty reads none follows never v x.mapped.handshake.capabilities x.negotiate
      y.negotiate x.mapped.following y.mapped.following x.last y.last base.0 (base.1 ∙ sym base.2)
      (hold-alike x.mapped.following y.mapped.following maps.alike) c.ended d.ended x.way other in
      alike-by c d (sym x.ends ∙ ap (λ (z : TransportState). z.sent) ends.0 ∙ y.ends)
      (ap mapped_shown x.maps ∙ maps.shown ∙ sym (ap mapped_shown y.maps)) ends.1

  unmapped-alike : (c d : Course) → c.sent ≡ d.sent → c.mapped ≡ None → d.mapped ≡ None → c.ended ≡ d.ended → GoAlike c d
  unmapped-alike c d s m n e = alike-by c d s (ap mapped_shown (m ∙ sym n)) e

  abbrev Either : Course → Course → Type 0
  Either c d = EndsForMemory c.ended ⊎ EndsForMemory d.ended ⊎ GoAlike c d

  both-went : (c d : Course) → Went IsOne c → Went IsOther d → Either c d
  both-went c d (for_memory m) y = inl m
  both-went c d (at_greeting p s m e) (for_memory n) = inr (inl n)
  both-went c d (at_map p r s m e) (for_memory n) = inr (inl n)
  both-went c d (to_fetch p r x) (for_memory n) = inr (inl n)
  both-went c d (at_greeting {name} p s m e) (at_greeting {name = other} q t n f) =
      inr (inr (unmapped-alike c d (s ∙ sym t) m n (e ∙ ap (λ x. ends_refused (refusal (codes "handshake") x))
      (same-name (discovery [] (first_pieces bodies)) name other p q) ∙ sym f)))
  both-went c d (at_greeting {name} p s m e) (at_map {advertised} q r t n f) =
      absurd (advertised-or-not (discovery [] (first_pieces bodies)) advertised name q.discovered p)
  both-went c d (at_greeting {name} p s m e) (to_fetch {advertised} q r y) =
      absurd (advertised-or-not (discovery [] (first_pieces bodies)) advertised name q.discovered p)
  both-went c d (at_map {advertised} p r s m e) (at_greeting {name} q t n f) =
      absurd (advertised-or-not (discovery [] (first_pieces bodies)) advertised name p.discovered q)
  both-went c d (at_map {advertised} {specs} {name} p r s m e) (at_map {advertised = other} {specs = more} {name = named} q k t n f) =
      let o = planned-same bodies words advertised other specs more p q in
      inr
      (inr (unmapped-alike c d (s ∙ o.0 ∙ sym t) m n
      (e ∙ ap (λ x. ends_refused (refusal (codes "refs") x))
      (same-some (refusal_for bodies words other more) name named (sym o.1 ∙ r) k) ∙ sym f)))
  both-went c d (at_map {advertised} {specs} {name} p r s m e) (to_fetch {advertised = other} {specs = more} q k y) =
      absurd (some-or-none (refusal_for bodies words other more) name (sym (planned-same bodies words advertised other specs more p q).1 ∙ r) k)
  both-went c d (to_fetch {advertised} p r x) (at_greeting {name} q t n f) =
      absurd (advertised-or-not (discovery [] (first_pieces bodies)) advertised name p.discovered q)
  both-went c d (to_fetch {advertised} {specs} p r x) (at_map {advertised = other} {specs = more} {name} q k t n f) =
      absurd (some-or-none (refusal_for bodies words other more) name k (sym (planned-same bodies words advertised other specs more p q).1 ∙ r))
  both-went c d (to_fetch p r x) (to_fetch q k y) = inr (inr (fetched-alike c d x y))

  pub courses-follow : CoursesFollow parties IsOne IsOther IsEmpty bodies words
  courses-follow c d x y = both-went c d (went IsOne c x) (went IsOther d y)
