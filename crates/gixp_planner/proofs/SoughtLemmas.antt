-- How a ref map ends, by the refs that came first or the answer to its list: as that says, or for memory.
use Rattle.std.proofs.Common.{◌≡◌, ◌≢◌, ◌⊎◌, ℕ, true, false, List, [], ◌∷◌, ◌++◌, map, length, Option, Some, None, Vec, Result, Ok, Err, IfSome, inl, inr, refl, sym, ap, ◌∙◌, subst, append-nil}
use Rattle.std.specs.Prelude.{codes}
use Rattle.std.specs.declared.alloc.Global.{Global}
use Rattle.gixp_packetline.specs.Lines.{lines_of}
use Rattle.gixp_packetline.specs.Pieces.{Pieces}
use Rattle.gixp_packetline.specs.Reading.{Reading, lines_ahead, lines_from_stop}
use Rattle.gixp_packetline.specs.TransportState.{TransportState}
use Rattle.gixp_capabilities.specs.declared.client.Error.{Error as client_error}
use Rattle.gixp_capabilities.specs.declared.client.Error.TheVariants as client
use Rattle.gixp_capabilities.specs.Capabilities.{CapabilityValue}
use Rattle.gixp_transport.specs.declared.bodies.Body.{Body}
use Rattle.gixp_transport.specs.declared.bodies.Bodies.{Bodies}
use Rattle.gixp_transport.specs.Bodies.{answer_of, bodies_reading, IsNewBodies}
use Rattle.gixp_transport.specs.Transport.{SentBy, FailsBy, first_answer, later_answers, answer_pieces}
use Rattle.gixp_refs.specs.declared.handshake.Ref.{Ref}
use Rattle.gixp_refs.specs.declared.handshake.refs.parse.Error.{Error as parse_error}
use Rattle.gixp_refs.specs.Ref.{RefValue, ref_value}
use Rattle.gixp_refs.specs.RefLine.{RefsRefusal, refusal_from}
use Rattle.gixp_refs.specs.Refs.{v2_refs, RefsFail}
use Rattle.gixp_requests.specs.declared.command.validate_argument_prefixes.Error.{Error as validation_error}
use Rattle.gixp_requests.specs.Offers.{ValidationRefusal, AnswersRefusal}
use Rattle.gixp_refspec.specs.declared.spec.RefSpec.{RefSpec}
use Rattle.gixp_refspec.specs.Spec.{Spec}
use Rattle.gixp_refspec.specs.RefSpec.{owned_value_of}
use Rattle.gixp_matching.specs.Validation.{Conflict, conflicts}
use Rattle.gixp_refmap.specs.declared.refmap.map.RefMap.{RefMap}
use Rattle.gixp_refmap.specs.declared.refmap.init.Context.{Context}
use Rattle.gixp_refmap.specs.declared.refmap.init.Error.{Error as map_error}
use Rattle.gixp_refmap.specs.declared.refmap.init.Error.TheVariants as the_map
use Rattle.gixp_refmap.specs.declared.ls_refs.error.Error.{Error as list_error}
use Rattle.gixp_refmap.specs.declared.ls_refs.error.Error.TheVariants as list
use Rattle.gixp_refmap.specs.ListError.{from_client, from_parse, from_validation}
use Rattle.gixp_refmap.specs.MapError.{from_listing}
use Rattle.gixp_refmap.specs.Listing.{Listing, listing_of, listing_refusal, listing_fits, listing_text, SendsListing, Listed, Lists}
use Rattle.gixp_refmap.specs.Mapping.{found_in, unknown_format, AnswersBy}
use Rattle.gixp_requests.specs.Command.{git_table}
use Rattle.gixp_handshake.specs.declared.handshake.read.Handshake.{Handshake}
use Rattle.gixp_handshake.specs.declared.handshake.ref_map.ObtainRefMap.{ObtainRefMap}
use Rattle.gixp_handshake.specs.declared.handshake.ref_map.ObtainRefMap.TheVariants.{Existing, LsRefsCommand}
use Rattle.gixp_handshake.specs.Obtain.{MakesMap, PreparesBy, ByList, ObtainsBy, Obtains}
use Rattle.gixp_planner.specs.Refusal.{map_name}
use Rattle.gixp_planner.specs.Specs.{specs_of, IsContext}
use Rattle.gixp_handshake.specs.WithoutAccount.{GreetsWithoutAccount}
use Rattle.gixp_planner.specs.Session.{planner_agent, MapsRefs}
use Rattle.gixp_planner.specs.Discovered.{Discovery, discovery, values_of, HasDiscovered, first_pieces}
use Rattle.gixp_planner.specs.Sought.{Sought, at_hand, unasked, of_answer, by_size, by_offer, list_for, by_arrival, sought, by_conflicts, by_format, map_refusal, IsSought, second_pieces, Plans, RefMapsFollow}
use Rattle.gixp_planner.proofs.MappedLemmas.{if-known, state, new-held, all_specs}
use Rattle.gixp_planner.proofs.DiscoveredLemmas.{next_pieces, outside, discovers, memory-read}
use Rattle.gixp_planner.proofs.AnswerLemmas.{never-none}

-- ---- by the refs

-- what is known of a result by the name of its refusal, if it is refused
abbrev pub IsRefusedAs : Option (List ℕ) → Result RefMap map_error → Type 0
IsRefusedAs refusal (Ok m) = refusal ≡ None
IsRefusedAs refusal (Err e) = (refusal ≡ Some (map_name e)) ⊎ (e ≡ the_map.Memory)

conflicted : (cs : List Conflict) → cs ≢ [] → by_conflicts cs ≡ Some (codes "MappingValidation")
conflicted [] n = absurd (n refl)
conflicted (c ∷ cs) n = refl

refused-as : (o : Option (List ℕ)) (specs : List Spec) (count : ℕ) (refs : List RefValue) (r : Result RefMap map_error)
    → AnswersBy o specs count refs r → IsRefusedAs (by_format o (conflicts specs (found_in specs refs))) r
refused-as None specs count refs (Ok m) h = ap by_conflicts h.0
refused-as None specs count refs (Err (the_map.UnknownObjectFormat f)) h = absurd h
refused-as None specs count refs (Err (the_map.MappingValidation v)) h = inl (conflicted (conflicts specs (found_in specs refs)) h.0)
refused-as None specs count refs (Err (the_map.ListRefs l)) h = absurd h
refused-as None specs count refs (Err the_map.Memory) h = inr refl
refused-as (Some f) specs count refs (Ok m) h = absurd h
refused-as (Some f) specs count refs (Err (the_map.UnknownObjectFormat g)) h = inl refl
refused-as (Some f) specs count refs (Err (the_map.MappingValidation v)) h = absurd h
refused-as (Some f) specs count refs (Err (the_map.ListRefs l)) h = absurd h
refused-as (Some f) specs count refs (Err the_map.Memory) h = inr refl

-- what was sought gives these refs, and that was sent for them
record Finds (found : Sought) (old new : Reading) (refs : List RefValue) : Type 0 where
  refs_are : found.refs ≡ Ok refs
  sent : new.held.sent ≡ old.held.sent ++ found.requests

-- or none
record FindsNone (found : Sought) (old new : Reading) : Type 0 where
  refs_are : found.refs ≡ Err (codes "ListRefs")
  sent : new.held.sent ≡ old.held.sent ++ found.requests

is-sought : (refusal : Option (List ℕ)) (requests sent : List (List ℕ)) (r : Result RefMap map_error) → IsRefusedAs refusal r
    → sent ≡ requests → IsSought refusal requests sent r
is-sought refusal requests sent (Ok m) h s = (h, s)
is-sought refusal requests sent (Err e) (inl h) s = inl (h, s)
is-sought refusal requests sent (Err e) (inr h) s = inr h

-- ---- by the list

list-memory : (e : list_error) → e ≡ list.Memory → from_listing e ≡ the_map.Memory
list-memory e m = ap from_listing m

-- the name of a listing's error, unless it is that of memory
list-named : (x : list_error) → (map_name (from_listing x) ≡ codes "ListRefs") ⊎ (from_listing x ≡ the_map.Memory)
list-named (list.Io kind) = inl refl
list-named (list.Transport e) = inl refl
list-named (list.Parse e) = inl refl
list-named (list.ArgumentValidation e) = inl refl
list-named list.Memory = inr refl

-- a list that isn't in order, or is
invalid : (o : Option ValidationRefusal) (x : validation_error) (l : Listing) (old : Reading) → AnswersRefusal o (Err x)
    → by_offer o l old.version (next_pieces old) ≡ unasked
invalid None x l old v = absurd v
invalid (Some refusal) x l old v = refl

valid : (o : Option ValidationRefusal) (l : Listing) (old : Reading) → AnswersRefusal o (Ok tt)
    → by_offer o l old.version (next_pieces old) ≡ by_size (listing_fits l) l old.version (next_pieces old)
valid None l old v = refl
valid (Some refusal) l old v = absurd v

module _ (l : Listing) (old : Reading) (alone : old.held.persists ≡ false) where
  -- what a list comes to
  abbrev pub listed_so : Sought
  listed_so = by_offer (listing_refusal l) l old.version (next_pieces old)

  -- after its request: the answer, and that it was sent
  record Asked (mid : Reading) : Type 0 where
    so : listed_so ≡ record { requests = listing_text l ∷ []; refs = of_answer (v2_refs (lines_of old.version (next_pieces old))) }
    to_come : mid.to_come ≡ Some (next_pieces old)
    ahead : lines_ahead mid (next_pieces old) ≡ lines_of old.version (next_pieces old)
    sent : mid.held.sent ≡ old.held.sent ++ listing_text l ∷ []

  asked : (mid : Reading) → AnswersRefusal (listing_refusal l) (Ok tt) → SendsListing l old mid (Ok tt) → Asked mid
  asked mid v s =
      let t : SentBy false old mid (listing_text l) = subst (λ p. SentBy p old mid (listing_text l)) alone s.1 in
      record {
        so = valid (listing_refusal l) l old v ∙ ap (λ b. by_size b l old.version (next_pieces old)) s.0;
        to_come = t.0.to_come;
        ahead = ap (λ x. lines_from_stop x mid.version (next_pieces old)) t.0.stopped ∙ ap (λ x. lines_of x (next_pieces old)) t.0.version;
        sent = ap (λ (h : TransportState). h.sent) t.0.held;
      }

  finds : (new : Reading) (refs : List Ref) → Listed l old new refs → Finds listed_so old new (map ref_value refs)
  finds new refs x =
      let a = asked x.mid x.valid x.sent in
      let value : v2_refs (lines_of old.version (next_pieces old)) ≡ Ok (map ref_value refs) = ap v2_refs (sym a.ahead) ∙ if-known
      (λ p. v2_refs (lines_ahead x.mid p) ≡ Ok (map ref_value refs)) x.mid.to_come (next_pieces old) a.to_come x.read.value in
      record {
        refs_are = ap (λ (s : Sought). s.refs) a.so ∙ ap of_answer value;
        sent = ap (λ (h : TransportState). h.sent) x.held ∙ a.sent ∙ ap (λ (s : Sought). old.held.sent ++ s.requests) (sym a.so);
      }

  -- nothing was asked
  stays : (new : Reading) → listed_so ≡ unasked → new.held.sent ≡ old.held.sent → FindsNone listed_so old new
  stays new e f = record {
    refs_are = ap (λ (s : Sought). s.refs) e;
    sent = f ∙ sym (append-nil old.held.sent) ∙ ap (λ (s : Sought). old.held.sent ++ s.requests) (sym e);
  }

  module _ (new : Reading) (z : new.failures ≡ 0) where
    unsent-so : (x : client_error) → AnswersRefusal (listing_refusal l) (Ok tt) → SendsListing l old new (Err x)
        → FindsNone listed_so old new ⊎ (from_client x ≡ list.Memory)
    unsent-so (client.Io kind) v s =
        let f : FailsBy false old new (listing_text l) kind = subst (λ p. FailsBy p old new (listing_text l) kind) alone s.1 in
        absurd (never-none old.failures new.failures f.1.1 z)
    unsent-so (client.Read e) v s = absurd s
    unsent-so client.LineTooLong v s =
        inl (stays new (valid (listing_refusal l) l old v ∙ ap (λ b. by_size b l old.version (next_pieces old)) s.0)
        (ap (λ (r : Reading). r.held.sent) s.1))
    unsent-so client.AuthenticationUnsupported v s = absurd s
    unsent-so (client.UnsupportedProtocolVersion t) v s = absurd s
    unsent-so client.MissingDelimitingNullByte v s = absurd s
    unsent-so client.Memory v s = inr refl

    -- its answer is refused
    unread-so : (mid : Reading) (a : Asked mid) (x : parse_error) → new.held ≡ mid.held → RefsFail true mid new x
        → FindsNone listed_so old new ⊎ (from_parse x ≡ list.Memory)
    unread-so mid a x h f = at f
      where
        none : (r : RefsRefusal) → IfSome mid.to_come (λ p. v2_refs (lines_ahead mid p) ≡ Err r) → FindsNone listed_so old new
        none r k =
            let refused : v2_refs (lines_of old.version (next_pieces old)) ≡ Err r = ap v2_refs (sym a.ahead)
            ∙ if-known (λ p. v2_refs (lines_ahead mid p) ≡ Err r) mid.to_come (next_pieces old) a.to_come k in
            record {
              refs_are = ap (λ (s : Sought). s.refs) a.so ∙ ap of_answer refused;
              sent = ap (λ (t : TransportState). t.sent) h ∙ a.sent ∙ ap (λ (s : Sought). old.held.sent ++ s.requests) (sym a.so);
            }

        at : RefsFail true mid new x → FindsNone listed_so old new ⊎ (from_parse x ≡ list.Memory)
        at (inl k) = inl (none k.refusal k.first)
        at (inr (inl k)) = inl (none (refusal_from k.refusal) k.first)
        at (inr (inr (inl k))) = inr (ap from_parse (memory-read x (k.error ∙ outside k.now new k.refusal z k.failed (k.is_plain refl))))
        at (inr (inr (inr k))) = inr (ap from_parse k.error)

    finds-none : (e : list_error) → Lists l true old new (Err e) → FindsNone listed_so old new ⊎ (e ≡ list.Memory)
    finds-none e (inl n) = at n.why
      where
        at : ((y : validation_error) × AnswersRefusal (listing_refusal l) (Err y) × (e ≡ from_validation y))
            ⊎ (e ≡ list.Memory) → FindsNone listed_so old new ⊎ (e ≡ list.Memory)
        at (inl w) = inl (stays new (invalid (listing_refusal l) w.0 l old w.1) (ap (λ (r : Reading). r.held.sent) n.unsent))
        at (inr w) = inr w
    finds-none e (inr (inl n)) = at (unsent-so n.why.0 n.valid n.why.1)
      where
        at : FindsNone listed_so old new ⊎ (from_client n.why.0 ≡ list.Memory) → FindsNone listed_so old new ⊎ (e ≡ list.Memory)
        at (inl f) = inl f
        at (inr m) = inr (n.why.2 ∙ m)
    finds-none e (inr (inr n)) = at (unread-so n.mid (asked n.mid n.valid n.sent) n.why.0 n.held n.why.1)
      where
        at : FindsNone listed_so old new ⊎ (from_parse n.why.0 ≡ list.Memory) → FindsNone listed_so old new ⊎ (e ≡ list.Memory)
        at (inl f) = inl f
        at (inr m) = inr (n.why.2 ∙ m)

-- ---- a ref map

module _ (caps : List CapabilityValue) (context : Context) (old new : Reading) (r : Result RefMap map_error) where
  -- how it ended, by what was sought for it
  abbrev pub Ended : Sought → Type 0
  Ended found = IsSought (map_refusal caps (all_specs context) found.refs) (old.held.sent ++ found.requests) new.held.sent r

  of-refs : (found : Sought) (refs : List Ref) → Finds found old new (map ref_value refs) → MakesMap caps context refs r → Ended found
  of-refs found refs f m =
      is-sought (map_refusal caps (all_specs context) found.refs) (old.held.sent ++ found.requests) new.held.sent r
      (subst (λ x. IsRefusedAs (map_refusal caps (all_specs context) x) r) (sym f.refs_are) (refused-as (unknown_format caps)
      (all_specs context) (length context.fetch_refspecs.items) (map ref_value refs) r m.maps)) f.sent

  abbrev err_mapped : map_error → Result RefMap map_error
  err_mapped e = Err e

  of-memory : (found : Sought) (e : map_error) → r ≡ err_mapped e → e ≡ the_map.Memory → Ended found
  of-memory found e q m = subst (λ x. IsSought (map_refusal caps (all_specs context) found.refs)
      (old.held.sent ++ found.requests) new.held.sent x) (sym q) (inr m)

  of-none : (found : Sought) (x : list_error) → r ≡ err_mapped (from_listing x) → FindsNone found old new ⊎ (x ≡ list.Memory) → Ended found
  of-none found x q (inr m) = of-memory found (from_listing x) q (list-memory x m)
  of-none found x q (inl f) = at (list-named x)
    where
      at : (map_name (from_listing x) ≡ codes "ListRefs") ⊎ (from_listing x ≡ the_map.Memory) → Ended found
      at (inr m) = of-memory found (from_listing x) q m
      at (inl n) =
          subst (λ y. IsSought (map_refusal caps (all_specs context) found.refs) (old.held.sent ++ found.requests) new.held.sent y) (sym q)
          (inl (ap (map_refusal caps (all_specs context)) f.refs_are ∙ ap Some (sym n), f.sent))

  module _ (alone : old.held.persists ≡ false) (z : (e : map_error) → r ≡ err_mapped e → new.failures ≡ 0) where
    of-list : (l : Listing) → l.capabilities ≡ caps → (listed : Result (Vec Ref Global) list_error) → Lists l true old new listed
        → ByList caps context listed r → Ended (by_offer (listing_refusal l) l old.version (next_pieces old))
    of-list l is (Ok refs) x m = of-refs _ refs.items (finds l old alone new refs.items x) m
    of-list l is (Err e) x m = of-none _ e m (finds-none l old alone new (z (from_listing e) m) e x)

    -- nothing was sent where the refs came first
    first-refs : (refs : List RefValue) → new ≡ old → Finds (at_hand refs) old new refs
    first-refs refs e = record { refs_are = refl; sent = ap (λ (x : Reading). x.held.sent) e ∙ sym (append-nil old.held.sent) }

    ended-by : (refs : Option (Vec Ref Global)) (prepared : Result ObtainRefMap map_error)
        → PreparesBy refs git_table true planner_agent context caps prepared → ObtainsBy prepared true old new r
        → Ended (by_arrival (values_of refs) (list_for caps (all_specs context)) old.version (next_pieces old))
    ended-by (Some refs) (Err x) p o =
        of-refs _ refs.items (first-refs (map ref_value refs.items) o.0) (subst (λ y. MakesMap caps context refs.items y) (sym o.1) p)
    ended-by (Some refs) (Ok (Existing m)) p o =
        of-refs _ refs.items (first-refs (map ref_value refs.items) o.0) (subst (λ y. MakesMap caps context refs.items y) (sym o.1) p)
    ended-by (Some refs) (Ok (LsRefsCommand command handed)) p o = absurd p
    ended-by None (Err x) p o = of-memory _ x o.1 p
    ended-by None (Ok (Existing m)) p o = absurd p
    ended-by None (Ok (LsRefsCommand command handed)) p o =
        of-list (list_for caps (all_specs context)) refl o.listed (subst (λ l. Lists l true old new o.listed) p.0 o.lists)
        (subst (λ (k : List CapabilityValue). ByList k context o.listed r) (ap (λ (l : Listing). l.capabilities) p.0)
        (subst (λ (x : Context). ByList (listing_of command).capabilities x o.listed r) p.1 o.maps))

abbrev pub sought_by : Context → Handshake → Reading → Sought
sought_by context h old = by_arrival (values_of h.refs) (list_for h.capabilities (all_specs context)) old.version (next_pieces old)

pub made-or-refused : (m : RefMap) (e : map_error) → ◌≡◌ {A = Result RefMap map_error} (Ok m) (Err e) → ⊥
made-or-refused m e q = cc

module _ (context : Context) (h : Handshake) (old new : Reading) (alone : old.held.persists ≡ false) where
  obtained-so : (r : Result RefMap map_error) → ((e : map_error) → r ≡ Err e → new.failures ≡ 0)
      → Obtains git_table planner_agent context h true old new r → Ended h.capabilities context old new r (sought_by context h old)
  obtained-so r z o = ended-by h.capabilities context old new r alone z h.refs o.prepared o.prepares o.obtains

  -- a ref map ends as the refs say, unless a failure was counted
  pub ends-sought : (r : Result RefMap map_error) → ((e : map_error) → r ≡ Err e → new.failures ≡ 0) → MapsRefs context h true old new r
      → Ended h.capabilities context old new r (sought_by context h old)
  ends-sought (Ok m) z o = obtained-so (Ok o.0) (λ e q. absurd (made-or-refused o.0 e q)) o.1
  ends-sought (Err e) z (inl o) = obtained-so (Err e) z o
  ends-sought (Err e) z (inr m) = inr m.1

-- ---- over bodies

-- what is said of the handshake is what was discovered
by-discovery : (advertised : Discovery) (context : Context) (h : Handshake) (old : Reading) → HasDiscovered advertised h
    → (advertised.refs ≡ None → old.version ≡ advertised.version) → (p : Pieces)
    → by_arrival (values_of h.refs) (list_for h.capabilities (all_specs context)) old.version p ≡ sought advertised (all_specs context) p
by-discovery advertised context h old has version p =
    ap (λ c. by_arrival (values_of h.refs) (list_for c (all_specs context)) old.version p) has.capabilities
    ∙ ap (λ r. by_arrival r (list_for advertised.capabilities (all_specs context)) old.version p) has.refs ∙ at advertised.refs version
  where
    at : (refs : Option (List RefValue)) → (refs ≡ None → old.version ≡ advertised.version)
        → by_arrival refs (list_for advertised.capabilities (all_specs context)) old.version p
        ≡ by_arrival refs (list_for advertised.capabilities (all_specs context)) advertised.version p
    at None v = ap (λ x. by_arrival None (list_for advertised.capabilities (all_specs context)) x p) (v refl)
    at (Some refs) v = refl

-- the refspecs of a context that was read are those of the words
words-read : (words : List (List ℕ)) (context : Context) → IsContext words context → specs_of words ≡ Ok (all_specs context)
words-read words context i = i.specs ∙ ap Ok (sym (append-nil (map owned_value_of context.fetch_refspecs.items))
    ∙ ap (λ (s : List RefSpec). map owned_value_of context.fetch_refspecs.items ++ map owned_value_of s) (sym i.extra))

-- what a session over bodies that was greeted comes to with these refspecs
pub record Planning (bodies : List Body) (words : List (List ℕ)) (sent : List (List ℕ)) (r : Result RefMap map_error)
    (mid : Reading) : Type 0 where
  pub plans : Plans bodies words sent r
  pub alone : mid.held.persists ≡ false

pub planning : (bodies : List Body) (words : List (List ℕ)) (r : Result RefMap map_error) (context : Context) (transport : Bodies)
    (h : Handshake) (mid last : Reading) → IsContext words context → IsNewBodies bodies [] [] transport
    → GreetsWithoutAccount true (bodies_reading transport) mid (Ok h) → MapsRefs context h true mid last r
    → ((e : map_error) → r ≡ Err e → last.failures ≡ 0) → Planning bodies words last.held.sent r mid
planning bodies words r context transport h mid last read over greets maps z =
    let old = bodies_reading transport in
    let are = new-held bodies transport over in
    let d = discovers true old mid h refl greets in
    let advertised : discovery [] (first_pieces bodies) ≡ Ok d.advertised =
    subst (λ (s : TransportState). discovery s.accepted (answer_pieces (first_answer s.answers)) ≡ Ok d.advertised) are d.so in
    let held : mid.held ≡ state (Some []) [] (later_answers (map answer_of bodies)) [] [] None = d.held
    ∙ ap (λ (s : TransportState). record s { answers = later_answers s.answers }) are in
    let alone : mid.held.persists ≡ false = ap (λ (s : TransportState). s.persists) held in
    let ends = ends-sought context h mid last alone r z maps in
    let found : sought_by context h mid ≡ sought d.advertised (all_specs context) (second_pieces bodies) =
    by-discovery d.advertised context h mid d.has d.version (next_pieces mid)
    ∙ ap (λ (s : TransportState). sought d.advertised (all_specs context) (answer_pieces (first_answer s.answers))) held in
    let so = sought d.advertised (all_specs context) (second_pieces bodies) in
    record {
      plans = record {
        advertised = d.advertised;
        specs = all_specs context;
        discovered = advertised;
        read = words-read words context read;
        ends =
            subst (λ (s : TransportState). IsSought (map_refusal d.advertised.capabilities (all_specs context) so.refs)
            (s.sent ++ so.requests) last.held.sent r) held
            (subst (λ (f : Sought). IsSought (map_refusal d.advertised.capabilities (all_specs context) f.refs)
            (mid.held.sent ++ f.requests) last.held.sent r) found
            (subst (λ c. Ended c context mid last r (sought_by context h mid)) d.has.capabilities ends));
      };
      alone = alone;
    }

pub maps-follow : RefMapsFollow
maps-follow bodies words sent r x =
    subst (λ s. Plans bodies words s r) x.by_then
    (planning bodies words r x.context x.transport x.handshake x.mid x.last x.read x.over x.greets x.maps (λ e q. x.unfailed)).plans
