-- A ref map that gives way to its text, and a negotiation over it, which stands for one over the whole map.
use Rattle.std.proofs.Common.{◌≡◌, ℕ, Bool, true, false, ◌||◌, List, [], ◌∷◌, ◌++◌, length, reverse, drop, codes, Vec, vec_items, Option, Result, inl, refl, sym, ap, ◌∙◌, subst, append_assoc, append-nil}
use Rattle.std.specs.List.{flat_map}
use Rattle.std.specs.declared.alloc.Global.{Global}
use Rattle.std.specs.declared.alloc.AllocError.{AllocError}
use Rattle.std.proofs.lemmas.Grind.{flat_map-append}
use Rattle.std.proofs.lemmas.List.{flat_map_more}
use Rattle.gixp_packetline.specs.Reading.{Reading}
use Rattle.gixp_sidebands.specs.Bands.{Side}
use Rattle.gixp_matching.specs.declared.match_group.validate.Fix.{Fix}
use Rattle.gixp_requests.specs.Feature.{has_feature}
use Rattle.gixp_requests.specs.Arguments.{ArgumentsValue, can_use}
use Rattle.gixp_graph.specs.Object.{Objects}
use Rattle.gixp_refmap.specs.declared.refmap.mapping.Mapping.{Mapping}
use Rattle.gixp_refmap.specs.declared.refmap.map.RefMap.{RefMap}
use Rattle.gixp_graph.specs.declared.empty.NoRefs.{NoRefs}
use Rattle.gixp_negotiate.specs.declared.negotiate.negotiation.Negotiation.{Negotiation}
use Rattle.gixp_negotiate.specs.Negotiate.{NegotiationCalls}
use Rattle.gixp_negotiate.specs.Wants.{RequestLine, want, want_ref, have, asking, asking_all, request_lines, request_lines_of, AddsWants, AddsSomeWants, Adding}
use Rattle.gixp_negotiate.proofs.WantLemmas.{adding_more, adding_fails, request_lines-none}
use Rattle.gixp_handshake.specs.declared.handshake.read.Handshake.{Handshake}
use Rattle.gixp_fetch.specs.declared.error.Error.{Error as FetchError}
use Rattle.gixp_fetch.specs.declared.options.Outcome.{Outcome}
use Rattle.gixp_shallow.specs.Store.{StoreCalls}
use Rattle.gixp_fetch.specs.Fetch.{World, parties_of}
use Rattle.gixp_planner.specs.declared.negotiation.PrintingNegotiation.{PrintingNegotiation}
use Rattle.gixp_planner.specs.declared.printed.PrintedMap.{PrintedMap}
use Rattle.gixp_planner.specs.Text.{mapping_shown, fix_shown, map_shown}
use Rattle.gixp_planner.specs.Session.{planner_call, Carries, CarriesOn, FetchesMapped}
use Rattle.gixp_planner.specs.Printed.{text_then, printed_text, left_of, over, calls_over}
use Rattle.gixp_planner.proofs.SessionLemmas.{fetches-over}
use Rattle.gixp_planner.proofs.StandInLemmas.{ErrorIs, world_of, stands_in}

-- a text of mappings behind the texts of those before them
pub part_printed : (texts : List (Vec ℕ Global)) (text : Vec ℕ Global) (ms later : List Mapping) (fixes : List Fix)
    → text.items ≡ flat_map mapping_shown ms
    → text_then (flat_map vec_items (texts ++ text ∷ [])) later fixes ≡ text_then (flat_map vec_items texts) (ms ++ later) fixes
part_printed texts text ms later fixes e =
    let before = flat_map vec_items texts in
    let following = flat_map fix_shown fixes in
    let rest = flat_map mapping_shown later ++ following in
    ap (λ t. t ++ rest) (sym (flat_map_more vec_items [] texts text) ∙ ap (λ t. before ++ t) e)
    ∙ append_assoc before (flat_map mapping_shown ms) rest
    ∙ ap (λ t. before ++ t) (sym (append_assoc (flat_map mapping_shown ms) (flat_map mapping_shown later) following)
    ∙ ap (λ t. t ++ following) (sym (flat_map-append mapping_shown ms later)))

-- what is left behind a part that became its text
pub left_printed : (before printed : PrintedMap) → printed.map.mappings.items ≡ [] → printed.later.items ≡ before.later.items
    → left_of printed ≡ reverse before.later.items
left_printed before printed e f = ap (λ ms. ms ++ reverse printed.later.items) e ∙ ap reverse f

-- where no mapping is a text yet, that of the ref map is printed
pub all_printed : (p : PrintedMap) (m : RefMap) → p.map ≡ m → p.texts.items ≡ [] → p.later.items ≡ [] → printed_text p ≡ map_shown m
all_printed p m e f h =
    ap (λ ts. text_then (flat_map vec_items ts) (p.map.mappings.items ++ p.later.items) p.map.fixes.items) f
    ∙ ap (λ ls. text_then [] (p.map.mappings.items ++ ls) p.map.fixes.items) h
    ∙ ap (λ ms. text_then [] ms p.map.fixes.items) (append-nil p.map.mappings.items) ∙ ap map_shown e

-- the lines of mappings, and of those behind them
wishes_both : (ignores : Mapping → Bool) (objects : Objects) (by_name new_only : Bool) (xs ys : List Mapping) (known : List Bool)
    → request_lines ignores objects by_name new_only (xs ++ ys) known
    ≡ request_lines ignores objects by_name new_only xs known ++ request_lines ignores objects by_name new_only ys (drop (length xs) known)
wishes_both ignores objects by_name new_only [] ys known = refl
wishes_both ignores objects by_name new_only (x ∷ xs) ys [] = sym (request_lines-none ignores objects by_name new_only ys)
wishes_both ignores objects by_name new_only (x ∷ xs) ys (k ∷ ks) =
    let of_x = request_lines_of ignores objects by_name new_only x k in
    ap (λ l. of_x ++ l) (wishes_both ignores objects by_name new_only xs ys ks)
    ∙ sym (append_assoc of_x (request_lines ignores objects by_name new_only xs ks)
    (request_lines ignores objects by_name new_only ys (drop (length xs) ks)))

-- lines that are asked for change no feature
features_kept : (ws : List RequestLine) (a : ArgumentsValue) → (asking_all ws a).features ≡ a.features
features_kept [] a = refl
features_kept (want id ∷ ws) a = features_kept ws (asking (want id) a)
features_kept (want_ref name ∷ ws) a = features_kept ws (asking (want_ref name) a)
features_kept (have id ∷ ws) a = features_kept ws (asking (have id) a)

by_name_kept : (ws left : List RequestLine) (any : Bool) (old new : ArgumentsValue) → Adding ws left any old new
    → can_use (codes "ref-in-want") new ≡ can_use (codes "ref-in-want") old
by_name_kept ws left any old new h = ap (can_use (codes "ref-in-want")) h.asked
    ∙ ap (has_feature (codes "ref-in-want")) (features_kept h.added old)

-- the lines of a part's mappings, where names are understood as they were at first
part_lines : (objects : Objects) (ws left : List RequestLine) (any : Bool) (old mid : ArgumentsValue) (ms later : List Mapping)
    (known : List Bool) → Adding ws left any old mid
    → left ≡ request_lines (λ _. false) objects (can_use (codes "ref-in-want") old) true (ms ++ later) known
    → left ≡ request_lines (λ _. false) objects (can_use (codes "ref-in-want") mid) true ms known
    ++ request_lines (λ _. false) objects (can_use (codes "ref-in-want") old) true later (drop (length ms) known)
part_lines objects ws left any old mid ms later known h e =
    let lines = λ (b : Bool). request_lines (λ _. false) objects b true ms known
    ++ request_lines (λ _. false) objects (can_use (codes "ref-in-want") old) true later (drop (length ms) known) in
    e ∙ wishes_both (λ _. false) objects (can_use (codes "ref-in-want") old) true ms later known
    ∙ ap lines (sym (by_name_kept ws left any old mid h))

module _ (objects : Objects) (ws : List RequestLine) (any : Bool) (old mid new : ArgumentsValue) (ms later : List Mapping) (known : List Bool)
    (h : Adding ws (request_lines (λ _. false) objects (can_use (codes "ref-in-want") old) true (ms ++ later) known) any old mid) where
  -- the lines of one part more
  pub part_added : (more all : Bool) (rest : List Bool)
      → AddsWants (request_lines (λ _. false) objects (can_use (codes "ref-in-want") mid) true ms known) more mid new
      → all ≡ (any || more) → rest ≡ drop (length ms) known
      → Adding ws (request_lines (λ _. false) objects (can_use (codes "ref-in-want") old) true later rest) all old new
  part_added more all rest w e f = subst
      (λ ks. Adding ws (request_lines (λ _. false) objects (can_use (codes "ref-in-want") old) true later ks) all old new) (sym f)
      (adding_more ws _ _ _ any more all old mid new h (part_lines objects ws _ any old mid ms later known h refl) w e)

  -- or some of them
  pub part_refused : AddsSomeWants (request_lines (λ _. false) objects (can_use (codes "ref-in-want") mid) true ms known) mid new
      → AddsSomeWants ws old new
  part_refused w = adding_fails ws _ _ _ any old mid new h (part_lines objects ws _ any old mid ms later known h refl) w

-- those so far
pub some_added : (ws left : List RequestLine) (any : Bool) (old new : ArgumentsValue) → Adding ws left any old new → AddsSomeWants ws old new
some_added ws left any old new h = record { added = h.added; left = left; split = h.split; asked = h.asked }

-- a negotiation that begins over this map, and one of which the same is printed
abbrev pub BeginsOver : {O N G : Type 0} → RefMap → PrintingNegotiation O N G → Type 0
BeginsOver map n = (n.printed.map ≡ map) × (n.printed.later.items ≡ []) × (printed_text n.printed ≡ map_shown map)

abbrev pub PrintsMap : {O N G : Type 0} → RefMap → PrintingNegotiation O N G → Type 0
PrintsMap map n = printed_text n.printed ≡ map_shown map

module _ {O N G : Type 0} (calls : NegotiationCalls (Negotiation O NoRefs N G AllocError) AllocError)
    (uncounted : (a b : RefMap) (n : PrintingNegotiation O N G) → calls.count (over a n) ≡ calls.count (over b n)) (map : RefMap) where
  -- it stands for a negotiation over the map
  stands_for : ErrorIs (calls_over calls) calls (over map) (BeginsOver map) (PrintsMap map)
  stands_for = record {
    begun = λ n b. b.2;
    count = λ n. uncounted n.printed.map map n;
    marks = λ n action m b h. (
      subst (λ x. calls.marks (over x n) action (over x m)) b.0 h.0,
      (ap (λ p. p.map) h.1 ∙ b.0, ap (λ p. p.later.items) h.1 ∙ b.1, ap printed_text h.1 ∙ b.2),
    );
    adds = λ n known a any c m b h. (subst (λ x. calls.adds (over x n) known a any c (over x m)) b.0 (h.0 b.1), h.1 ∙ b.2);
    goes = λ n s a p r d m t c h. (h.0 map, λ e. ap printed_text h.1 ∙ e);
    marking_fails = λ n e m b h. (subst (λ x. calls.marking_fails (over x n) e (over x m)) b.0 h.0, ap printed_text h.1 ∙ b.2);
    adding_fails = λ n known a e c m b h. (subst (λ x. calls.adding_fails (over x n) known a e c (over x m)) b.0 (h.0 b.1), h.1 ∙ b.2);
    round_fails = λ n s a p e m t c h. (h.0 map, λ x. ap printed_text h.1 ∙ x);
  }

  -- so a fetch over it is one over the map, and the same is printed of it afterwards
  pub carried_over : {I S C P X : Type 0} (store_calls : StoreCalls S) (polls : I → Bool → I → Type 0)
      (consumes : C → Side → P → Result Bool X → C → Side → P → Type 0) (plain : Bool) (h : Handshake)
      (first : World (PrintingNegotiation O N G) I S C) (r : Result (Option Outcome) (FetchError AllocError X))
      (last : World (PrintingNegotiation O N G) I S C) (progress : P)
      → Carries (parties_of (calls_over calls) store_calls polls consumes plain) h first r last progress
      → BeginsOver map first.negotiate
      → Carries (parties_of calls store_calls polls consumes plain) h (world_of (over map) first) r (world_of (over map) last) progress
      × PrintsMap map last.negotiate
  carried_over store_calls polls consumes plain h first r last progress it begins =
      let x = stands_in (calls_over calls) calls (over map) (BeginsOver map) (PrintsMap map) stands_for store_calls polls consumes plain
      (planner_call h) first begins r last progress it.fetched in
      (record { fetched = x.0 }, x.1)

  pub fetched_printed : {I S C P X : Type 0} (store_calls : StoreCalls S) (polls : I → Bool → I → Type 0)
      (consumes : C → Side → P → Result Bool X → C → Side → P → Type 0) (plain : Bool)
      (IsOver : Negotiation O NoRefs N G AllocError → Type 0) (IsEmpty : S → Type 0) (h : Handshake) (old new : Reading)
      (first last : PrintingNegotiation O N G) (store after : S) (printed : PrintedMap)
      (r : Result (Option Outcome) (FetchError AllocError X))
      → CarriesOn (parties_of (calls_over calls) store_calls polls consumes plain) h first old store r last new after
      → BeginsOver map first → IsOver (over map first) → IsEmpty store → printed ≡ last.printed
      → (printed_text printed ≡ map_shown map)
      × FetchesMapped (parties_of calls store_calls polls consumes plain) IsOver IsEmpty h old new r
  fetched_printed store_calls polls consumes plain IsOver IsEmpty h old new first last store after printed r it begins over_it empty e =
      let x = carried_over store_calls polls consumes plain h _ r _ it.progress it.carries begins in (
        ap printed_text e ∙ x.1,
        inl (fetches-over (parties_of calls store_calls polls consumes plain) h _ r _ it.progress IsOver IsEmpty old new x.0 over_it empty
            refl refl refl),
      )
