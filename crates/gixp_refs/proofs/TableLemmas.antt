-- The map from the names of symrefs to their targets.
use Rattle.std.proofs.Common.{◌≡◌, ℕ, inl, inr, Bool, true, false, cond, List, [], ◌∷◌, ◌++◌, map, refl, sym, ap, subst, ◌∙◌, append_assoc, append-nil, Option, Some, None, IfSome, MatchResult, Result, Ok, Err}
use Rattle.std.specs.Prelude.{is_some}
use Rattle.std.specs.Option.{option_map, option_copied}
use Rattle.std.specs.Borrow.{Bor}
use Rattle.std.proofs.lemmas.List.{map-append}
use Rattle.std.specs.Ordering.{nat_cmp, is_eq, match_ordering}
use Rattle.std.specs.declared.cmp.Ordering.{Ordering}
use Rattle.std.specs.declared.cmp.Ordering.TheVariants.{Less, Equal, Greater}
use Rattle.std.specs.Cmp.Lexicographic.{slice_cmp, texts_ties}
use Rattle.std.specs.BTreeMap.{insert_entry, is_at}
use Rattle.std.specs.Map.{lookup}
use Rattle.std.proofs.lemmas.Cmp.{nat_list_cmp_total, nat_list_eq_equiv, tied_itself}
use Rattle.std.proofs.lemmas.Map.Lookups.{exact_bytes}
use Rattle.bstr.specs.Owned.{bstring_bytes}
use Rattle.bstr.specs.declared.bstring.BString.{BString}
use Rattle.gixp_packetline.specs.Pieces.{Pieces}
use Rattle.gixp_packetline.specs.Reading.{Reading, lines_ahead}
use Rattle.gixp_refs.specs.declared.handshake.Ref.{Ref}
use Rattle.gixp_shallow.specs.declared.update.ShallowUpdate.{ShallowUpdate}
use Rattle.gixp_refs.specs.declared.handshake.refs.parse.Error.{Error}
use Rattle.gixp_refs.specs.Ref.{RefValue}
use Rattle.gixp_refs.specs.RefLine.{RefsRefusal}
use Rattle.gixp_capabilities.specs.Capabilities.{is_text}
use Rattle.gixp_refs.specs.ParseError.{AnswersRefs}
use Rattle.gixp_capabilities.specs.Capabilities.{CapabilityValue}
use Rattle.gixp_refs.specs.RefAdvertisement.{Symref, symref_named, target_named, TellAlike, reported_target, V1Line, nothing, peels, names, shallows, v1_line, NamedRef, pair_by, pair, closed, group_with, group_end, end_refusal, groups, v1_refs, symref_table}
use Rattle.gixp_refs.specs.V1Refs.{symref_value, name_cmp, symref_values, ReadsV1, V1Fails, GivesAdvertisement, AdvertisementFails}

-- ---- lookups in the map

abbrev Entry : Type 0
Entry = BString × Option BString

tells_at : (b : Bool) (s : Symref) (o : Option Symref) → option_map (λ (x : Symref). x.target) (cond b (Some s) o)
    ≡ cond b (Some s.target) (option_map (λ (x : Symref). x.target) o)
tells_at true s o = refl
tells_at false s o = refl

-- the first symref of a name counts
tells_cons : (s : Symref) (t : List Symref) (n : List ℕ) → target_named (s ∷ t) n ≡ cond (is_text s.name n) (Some s.target) (target_named t n)
tells_cons s t n = tells_at (is_text s.name n) s (symref_named t n)

tied : (o : Ordering) → is_eq o ≡ true → o ≡ Equal
tied Less h = cc
tied Equal h = refl
tied Greater h = cc

-- texts that compare equal are equal
same_text : (x y : List ℕ) → is_text x y ≡ true → x ≡ y
same_text x y h = exact_bytes x y (tied (slice_cmp nat_cmp x y) (sym (texts_ties x y) ∙ h))

twice : {A : Type 0} (b : Bool) (x y z : A) → cond b x z ≡ cond b x (cond b y z)
twice true x y z = refl
twice false x y z = refl

not_both : {A : Type 0} (b c : Bool) (x y z : A) → (b ≡ true → c ≡ true → ⊥) → cond b x (cond c y z) ≡ cond c y (cond b x z)
not_both true true x y z h = absurd (h refl refl)
not_both true false x y z h = refl
not_both false true x y z h = refl
not_both false false x y z h = refl

apart : (k e n : List ℕ) → slice_cmp nat_cmp k e ≡ Greater → is_text e n ≡ true → is_text k n ≡ true → ⊥
apart k e n g h i =
    let same : k ≡ e = same_text k n i ∙ sym (same_text e n h) in
    let eq : slice_cmp nat_cmp k e ≡ Equal = subst (λ x. slice_cmp nat_cmp k x ≡ Equal) same (tied_itself nat_list_cmp_total k) in
    cc

-- an inserted symref comes before the others
pub insert_tells : (es : List Entry) (k : BString) (v : Option BString) (n : List ℕ)
    → target_named (symref_values (insert_entry name_cmp es k v)) n ≡ cond (is_text (bstring_bytes k) n) (Some (option_map bstring_bytes v))
    (target_named (symref_values es) n)
insert_tells [] k v n = tells_cons (symref_value (k, v)) [] n
insert_tells (e ∷ es) k v n = at (name_cmp k e.0) (insert_tells es k v n) refl
  where
    at : (o : Ordering) → target_named (symref_values (insert_entry name_cmp es k v)) n
        ≡ cond (is_text (bstring_bytes k) n) (Some (option_map bstring_bytes v)) (target_named (symref_values es) n) → name_cmp k e.0 ≡ o
        → target_named (symref_values (match_ordering o ((k, v) ∷ e ∷ es) ((e.0, v) ∷ es) (e ∷ insert_entry name_cmp es k v))) n
        ≡ cond (is_text (bstring_bytes k) n) (Some (option_map bstring_bytes v)) (target_named (symref_values (e ∷ es)) n)
    at Less more h = tells_cons (symref_value (k, v)) (symref_values (e ∷ es)) n
    at Equal more h =
        let same : bstring_bytes k ≡ bstring_bytes e.0 = exact_bytes (bstring_bytes k) (bstring_bytes e.0) h in
        let value = Some (option_map bstring_bytes v) in
        tells_cons (symref_value (e.0, v)) (symref_values es) n
        ∙ twice (is_text (bstring_bytes e.0) n) value (Some (option_map bstring_bytes e.1)) (target_named (symref_values es) n)
        ∙ ap (λ x. cond (is_text (bstring_bytes e.0) n) value x) (sym (tells_cons (symref_value e) (symref_values es) n))
        ∙ ap (λ x. cond (is_text x n) value (target_named (symref_values (e ∷ es)) n)) (sym same)
    at Greater more h =
        let value = Some (option_map bstring_bytes v) in
        let had = Some (option_map bstring_bytes e.1) in
        tells_cons (symref_value e) (symref_values (insert_entry name_cmp es k v)) n
        ∙ ap (λ x. cond (is_text (bstring_bytes e.0) n) had x) more
        ∙ not_both (is_text (bstring_bytes e.0) n) (is_text (bstring_bytes k) n) had value (target_named (symref_values es) n)
        (apart (bstring_bytes k) (bstring_bytes e.0) n h)
        ∙ ap (λ x. cond (is_text (bstring_bytes k) n) value x) (sym (tells_cons (symref_value e) (symref_values es) n))

lookup_at : (b c : Bool) (e : Entry) (o : Option (Option BString)) (r : Option (Option (List ℕ))) → b ≡ c
    → option_map (λ (t : Option BString). option_map bstring_bytes t) o ≡ r
    → option_map (λ (t : Option BString). option_map bstring_bytes t) (cond b (Some e.1) o) ≡ cond c (Some (option_map bstring_bytes e.1)) r
lookup_at true c e o r h k = rw (← h) refl
lookup_at false c e o r h k = rw (← h) k

-- a lookup in the map finds the first symref of the name
pub lookup_tells : (es : List Entry) (q : BString) → option_map (λ (t : Option BString). option_map bstring_bytes t)
    (lookup (is_at (name_cmp q)) es) ≡ target_named (symref_values es) (bstring_bytes q)
lookup_tells [] q = refl
lookup_tells (e ∷ es) q =
    let same : is_eq (name_cmp q e.0) ≡ is_text (bstring_bytes e.0) (bstring_bytes q) =
    sym (texts_ties (bstring_bytes q) (bstring_bytes e.0)) ∙ nat_list_eq_equiv.symm (bstring_bytes q) (bstring_bytes e.0) in
    lookup_at (is_eq (name_cmp q e.0)) (is_text (bstring_bytes e.0) (bstring_bytes q)) e (lookup (is_at (name_cmp q)) es)
    (target_named (symref_values es) (bstring_bytes q)) same (lookup_tells es q)
    ∙ sym (tells_cons (symref_value e) (symref_values es) (bstring_bytes q))

-- a lookup finds a symref exactly where there is one
pub found_some : (r : Option (Bor (Option BString))) (x : Option Symref)
    → option_map (λ (t : Option BString). option_map bstring_bytes t) (option_copied r) ≡ option_map (λ (s : Symref). s.target) x
    → is_some r ≡ is_some x
found_some None None h = refl
found_some None (Some x) h = cc
found_some (Some r) None h = cc
found_some (Some r) (Some x) h = refl

-- and its target
pub found_target : (v : Option BString) (x : Option Symref)
    → Some (option_map bstring_bytes v) ≡ option_map (λ (s : Symref). s.target) x → option_map bstring_bytes v ≡ reported_target x
found_target v None h = cc
found_target v (Some x) h = cc

pub found_none : (x : Option Symref) → None ≡ option_map (λ (s : Symref). s.target) x → None ≡ reported_target x
found_none None h = refl
found_none (Some x) h = cc

pub copied_bytes : (r : Option (Bor BString)) → option_map (λ (s : Bor BString). bstring_bytes s.now) r
    ≡ option_map bstring_bytes (option_copied r)
copied_bytes None = refl
copied_bytes (Some s) = refl

-- ---- lists with the same first symref for each name

told_by : (x y : Option Symref) → option_map (λ (s : Symref). s.target) x ≡ option_map (λ (s : Symref). s.target) y
    → reported_target x ≡ reported_target y
told_by None None h = refl
told_by None (Some y) h = cc
told_by (Some x) None h = cc
told_by (Some x) (Some y) h = cc

paired_by : (x y : Option Symref) (n : NamedRef) (left base : List ℕ) → option_map (λ (s : Symref). s.target) x
    ≡ option_map (λ (s : Symref). s.target) y → pair_by x n left base ≡ pair_by y n left base
paired_by None None n left base h = refl
paired_by None (Some y) n left base h = cc
paired_by (Some x) None n left base h = cc
paired_by (Some x) (Some y) n left base h = refl

module _ (t u : List Symref) (alike : TellAlike t u) where
  closed_same : (last : Option NamedRef) → closed t last ≡ closed u last
  closed_same None = refl
  closed_same (Some n) = let e = told_by (symref_named t n.name) (symref_named u n.name) (alike n.name) in rw e refl

  pair_same : (last : Option NamedRef) (left base : List ℕ) → pair t last left base ≡ pair u last left base
  pair_same None left base = refl
  pair_same (Some n) left base = paired_by (symref_named t n.name) (symref_named u n.name) n left base (alike n.name)

  group_same : (last : Option NamedRef) (l : Result V1Line RefsRefusal) (k m : Option NamedRef → Result (List RefValue) RefsRefusal)
      → ((o : Option NamedRef) → k o ≡ m o)
      → group_with t last l k ≡ group_with u last l m
  group_same last (Err e) k m h = refl
  group_same last (Ok nothing) k m h = h last
  group_same last (Ok (shallows id)) k m h = h last
  group_same last (Ok (names object name)) k m h = let line : NamedRef = record { object = object; name = name } in
      rw (closed_same last, h (Some line)) refl
  group_same last (Ok (peels left base)) k m h = rw (pair_same last left base, h None) refl

  pub groups_same : (texts : List (List ℕ)) (end : Option RefsRefusal) (last : Option NamedRef)
      → groups texts end t last ≡ groups texts end u last
  groups_same [] end last = ap (λ vs. group_end vs end) (closed_same last)
  groups_same (text ∷ texts) end last = group_same last (v1_line text) (λ o. groups texts end t o) (λ o. groups texts end u o)
      (groups_same texts end)

  first_same : (r : Reading) (o : Option Pieces) (e : RefsRefusal) → IfSome o (λ p. v1_refs u (lines_ahead r p) ≡ Err e)
      → IfSome o (λ p. v1_refs t (lines_ahead r p) ≡ Err e)
  first_same r None e h = tt
  first_same r (Some p) e h = groups_same (lines_ahead r p).lines (end_refusal (lines_ahead r p).ending) None ∙ h

  -- one list reads the same refs as the other
  pub reads_same : (old new : Reading) (refs : List Ref) (updates : List ShallowUpdate) → ReadsV1 u old new refs updates
      → ReadsV1 t old new refs updates
  reads_same old new refs updates h = record {
    kind = h.kind;
    texts = h.texts;
    lines = h.lines;
    values = groups_same h.texts None None ∙ h.values;
    shallow = h.shallow;
    stopped = h.stopped;
    version = h.version;
    failures = h.failures;
    held = h.held;
  }

  -- one list fails with the same errors as the other
  pub fails_same : (plain : Bool) (old new : Reading) (e : Error) → V1Fails u plain old new e → V1Fails t plain old new e
  fails_same plain old new e (inl (inl h)) = let last = h.last in inl (inl (record {
    taken = h.taken;
    read = h.read;
    refusal = h.refusal;
    last = record {
      before = last.before;
      text = last.text;
      split = last.split;
      refs = (last.refs.0, groups_same last.before None None ∙ last.refs.1);
      line = groups_same h.taken None None ∙ last.line;
    };
    first = first_same old old.to_come h.refusal h.first;
    error = h.error;
  }))
  fails_same plain old new e (inl (inr (inl h))) = inl (inr (inl (record {
    taken = h.taken;
    now = h.now;
    read = h.read;
    refusal = h.refusal;
    refused = h.refused;
    first = first_same old old.to_come _ h.first;
    error = h.error;
  })))
  fails_same plain old new e (inl (inr (inr h))) = inl (inr (inr h))
  fails_same plain old new e (inr h) = inr h

  pub answers_same : {A : Type 0} (r : Result A Error) (refs_of : A → List Ref) (updates_of : A → List ShallowUpdate) (plain : Bool)
      (old new : Reading)
      → MatchResult r (λ found. ReadsV1 u old new (refs_of found) (updates_of found)) (V1Fails u plain old new)
      → MatchResult r (λ found. ReadsV1 t old new (refs_of found) (updates_of found)) (V1Fails t plain old new)
  answers_same (Ok found) refs_of updates_of plain old new h = reads_same old new (refs_of found) (updates_of found) h
  answers_same (Err e) refs_of updates_of plain old new h = fails_same plain old new e h

-- the result of reading with the symrefs of the capabilities
pub given : {A : Type 0} (r : Result A Error) (refs_of : A → List Ref) (updates_of : A → List ShallowUpdate)
    (caps : List CapabilityValue) (t : List Symref) (plain : Bool) (old new : Reading) → symref_table caps ≡ Ok t
    → MatchResult r (λ found. ReadsV1 t old new (refs_of found) (updates_of found)) (V1Fails t plain old new)
    → MatchResult r (λ found. GivesAdvertisement caps old new (refs_of found) (updates_of found)) (AdvertisementFails caps plain old new)
given (Ok found) refs_of updates_of caps t plain old new is h = (t, is, h)
given (Err e) refs_of updates_of caps t plain old new is h = inr (t, is, h)

-- the list that was read is the one of the definition
pub list_is : {A B : Type 0} (view : A → B) (o : Result B RefsRefusal) (x : A) → AnswersRefs view o (Ok x) → o ≡ Ok (view x)
list_is view (Ok y) x h = ap Ok (sym h)
list_is view (Err e) x h = absurd h

-- ---- the map is filled from the last symref to the first

pub taken_off : {A : Type 0} (view : A → Symref) (old now : List A) (x : A) → old ≡ now ++ x ∷ [] → map view old ≡ map view now
    ++ view x ∷ []
taken_off view old now x h = ap (map view) h ∙ map-append view now (x ∷ [])

-- the symrefs that are not left are in the map
abbrev pub MakesTable : List Symref → List Symref → List Entry → Type 0
MakesTable all left entries = (done : List Symref) × (all ≡ left ++ done) × TellAlike done (symref_values entries)

pub table-start : (all : List Symref) (entries : List Entry) → entries ≡ [] → MakesTable all all entries
table-start all entries h = ([], sym (append-nil all), λ n. rw h refl)

pub table-put : (all left now : List Symref) (entries more : List Entry) (name : BString) (target : Option BString)
    → MakesTable all left entries → left ≡ now ++ symref_value (name, target) ∷ []
    → more ≡ insert_entry name_cmp entries name target → MakesTable all now more
table-put all left now entries more name target h l m = (
  symref_value (name, target) ∷ h.0,
  h.1 ∙ ap (λ x. x ++ h.0) l ∙ append_assoc now (symref_value (name, target) ∷ []) h.0,
  λ n. tells_cons (symref_value (name, target)) h.0 n
      ∙ ap (λ x. cond (is_text (bstring_bytes name) n) (Some (option_map bstring_bytes target)) x) (h.2 n)
      ∙ sym (ap (λ es. target_named (symref_values es) n) m ∙ insert_tells entries name target n),
)

pub table-done : (all left : List Symref) (entries : List Entry) → MakesTable all left entries → left ≡ []
    → TellAlike all (symref_values entries)
table-done all left entries h l = subst (λ x. TellAlike x (symref_values entries)) (sym (h.1 ∙ ap (λ x. x ++ h.0) l)) h.2
