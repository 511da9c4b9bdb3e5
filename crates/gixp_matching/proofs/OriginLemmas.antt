-- A mapping has one of the refspecs, and the first ref with its name or an id.
use Rattle.std.proofs.Common.{◌≡◌, ℕ, ◌+◌, Bool, true, false, cond, List, [], ◌∷◌, ◌++◌, Option, Some, None, ◌⊎◌, inl, inr, length, ap, sym, ◌∙◌, refl, subst, arith, append_assoc}
use Rattle.std.specs.Prelude.{◌||◌, ◌&&◌, is_some, option_to_list}
use Rattle.std.specs.Option.{option_map}
use Rattle.std.specs.List.{list_any, slice_get, flat_map, enumerate_from, position_from, AllByRecursion}
use Rattle.std.specs.Str.{bytes_eq}
use Rattle.std.proofs.lemmas.Bool.{cases_Bool, or_left, or_right, or_cases, false≢true}
use Rattle.std.proofs.lemmas.List.{length-append}
use Rattle.std.proofs.lemmas.List.Folds.{list_any-append}
use Rattle.std.proofs.lemmas.Slice.Eq.{bytes_eq-Decides}
use Rattle.gixp_hash.specs.ObjectId.{id_of}
use Rattle.gixp_refspec.specs.Spec.{Spec, is_negative}
use Rattle.gixp_refspec.specs.Matching.{middle_of, local_of}
use Rattle.gixp_matching.specs.Mappings.{FullName, ObjectId, Mapped, mapped, local_eq, id_mapping, pair, pairs_of, pairs, id_mappings, is_excluded, mappings}
use Rattle.gixp_matching.specs.RefspecLaws.{HasOrigin}
use Rattle.gixp_refspec.proofs.PrefixLemmas.{matched_is_covered}
use Rattle.gixp_matching.proofs.ListLemmas.{stands_at}
use Rattle.gixp_matching.proofs.BackedLemmas.{has_same, Backed, backed_append, firsts_are_good}

-- two names are equal
abbrev is_name : List ℕ → List ℕ → Bool
is_name name other = bytes_eq other name

bytes_same : (a : List ℕ) → bytes_eq a a ≡ true
bytes_same a = (bytes_eq-Decides a a).1 refl

local_same : (l : Option (List ℕ)) → local_eq l l ≡ true
local_same None = refl
local_same (Some a) = bytes_same a

both : (a b : Bool) → a ≡ true → b ≡ true → (a && b) ≡ true
both a b p q = rw p q

-- the mapping of a refspec and the name at index i: none where b holds, else one for the middle
abbrev made : (s : ℕ × Spec) (name : List ℕ) (i : ℕ) (b : Bool) (middle : Option (List ℕ)) → List Mapped
made s name i b middle = cond b [] (option_to_list (option_map (λ m. mapped (Some i) (FullName name) (local_of s.1 m) s.0) middle))

-- all mappings of a refspec and a name are known
abbrev Knows : List Mapped → List Mapped → Type 0
Knows known ms = AllByRecursion (λ m. has_same known m ≡ true) ms

knows_more : (x : Mapped) (known ms : List Mapped) → Knows known ms → Knows (x ∷ known) ms
knows_more x known [] h = tt
knows_more x known (m ∷ ms) h = (or_right _ _ h.0, knows_more x known ms h.1)

-- one name of one refspec, followed by others
one_backed : (G : Mapped → Type 0) (known ys : List Mapped) (s : ℕ × Spec) (name : List ℕ) (i : ℕ) (b : Bool) (middle : Option (List ℕ))
    → ((m : List ℕ) → b ≡ false → middle ≡ Some m → G (mapped (Some i) (FullName name) (local_of s.1 m) s.0)
    ⊎ (has_same known (mapped (Some i) (FullName name) (local_of s.1 m) s.0) ≡ true))
    → ((now : List Mapped) → ((ms : List Mapped) → Knows known ms → Knows now ms) → ((j : ℕ) → Knows now (made s name j b middle))
    → Backed G now ys)
    → Backed G known (made s name i b middle ++ ys)
one_backed G known ys s name i true middle h t = t known (λ ms k. k) (λ j. tt)
one_backed G known ys s name i false None h t = t known (λ ms k. k) (λ j. tt)
one_backed G known ys s name i false (Some m) h t =
    let x = mapped (Some i) (FullName name) (local_of s.1 m) s.0 in (
      h m refl refl,
      t (x ∷ known) (λ ms k. knows_more x known ms k)
          (λ j. (or_left _ _ (both _ _ (bytes_same name) (local_same (local_of s.1 m))), tt)),
    )

-- the origin of a mapping that was made
knows_made : (known : List Mapped) (s : ℕ × Spec) (name : List ℕ) (i : ℕ) (b : Bool) (middle : Option (List ℕ)) (m : List ℕ) → b ≡ false
    → middle ≡ Some m
    → Knows known (made s name i b middle) → has_same known (mapped (Some i) (FullName name) (local_of s.1 m) s.0) ≡ true
knows_made known s name i b middle m e f h = let k = rw (e, f) at h in k.0

-- the first element that passes, after others that don't
first_at_seam : (p : List ℕ → Bool) (k : ℕ) (done rest : List (List ℕ)) (x : List ℕ) → list_any p done ≡ false → p x ≡ true
    → position_from p k (done ++ x ∷ rest) ≡ Some (k + length done)
first_at_seam p k [] rest x none here = rw here (ap (λ n. Some n) (omega arith))
first_at_seam p k (d ∷ done) rest x none here = elim (cases_Bool (p d)) [
  | inl t ↦ absurd (false≢true (sym none ∙ or_left _ _ t))
  | inr f ↦ (
      let n : list_any p done ≡ false = sym (ap (λ b. b || list_any p done) f) ∙ none in
      rw f (first_at_seam p (k + 1) done rest x n here ∙ ap (λ n. Some n) (omega arith)))
]

not_either : (a b : Bool) → (a || b) ≡ false → a ≡ false
not_either true b h = h
not_either false b h = refl

is_there : (o : Option (List ℕ)) (m : List ℕ) → o ≡ Some m → is_some o ≡ true
is_there o m e = ap is_some e

named : (other name : List ℕ) → (is_name other name || false) ≡ true → name ≡ other
named other name h =
    (bytes_eq-Decides name other).0 (elim (or_cases (is_name other name) false h) [ inl t ↦ t | inr f ↦ absurd (false≢true f) ])

-- one refspec and the remaining names
row_backed : (specs : List Spec) (names : List (List ℕ)) (j : ℕ) (s : Spec) → slice_get specs j ≡ Some s
    → (known : List Mapped) (done rest : List (List ℕ)) (i : ℕ) → i ≡ length done → names ≡ done ++ rest
    → ((name : List ℕ) → list_any (is_name name) done ≡ true → (at : ℕ) → Knows known (pair specs (j, s) (at, name)))
    → Backed (HasOrigin specs names) known (flat_map (pair specs (j, s)) (enumerate_from i rest))
unfolding pair
row_backed specs names j s l known done [] i e split inv = tt
row_backed specs names j s l known done (name ∷ rest) i e split inv =
    let b = is_negative s.sign || is_excluded specs name in
    let middle = middle_of s.source name in
    let more = flat_map (pair specs (j, s)) (enumerate_from (i + 1) rest) in
    one_backed (HasOrigin specs names) known more (j, s) name i b middle
    (λ m f g. elim (cases_Bool (list_any (is_name name) done)) [
      | inl old ↦ inr (knows_made known (j, s) name i b middle m f g (inv name old i))
      | inr new ↦ inl (record {
        origin = s;
        at_place = l;
        taken = (
          ap (position_from (is_name name) 0) split ∙ first_at_seam (is_name name) 0 done rest name new (bytes_same name)
              ∙ ap (λ n. Some n) (omega arith),
          matched_is_covered s name (not_either _ _ f) (is_there middle m g),
        );
      })
    ])
    (λ now keeps knows.
    row_backed specs names j s l now (done ++ name ∷ []) rest (i + 1)
    (ap (λ n. n + 1) e ∙ sym (length-append done (name ∷ [])))
    (split ∙ sym (append_assoc done (name ∷ []) rest))
    (λ other among at. elim (or_cases (list_any (is_name other) done) (is_name other name || false)
    (sym (list_any-append (is_name other) done (name ∷ [])) ∙ among)) [
      | inl before ↦ keeps (pair specs (j, s) (at, other)) (inv other before at)
      | inr here ↦ (
          let P : List ℕ → Type 0 = λ n. Knows now (pair specs (j, s) (at, n)) in
          subst P (named other name here) (knows at))
    ]))

-- all refspecs of a part
rows_backed : (specs : List Spec) (names : List (List ℕ)) (done part : List Spec) (k : ℕ) → k ≡ length done → specs ≡ done ++ part
    → (known : List Mapped) → Backed (HasOrigin specs names) known (flat_map (pairs_of specs names) (enumerate_from k part))
rows_backed specs names done [] k e split known = tt
rows_backed specs names done (s ∷ part) k e split known =
    backed_append (HasOrigin specs names) known (pairs_of specs names (k, s))
    (flat_map (pairs_of specs names) (enumerate_from (k + 1) part))
    (row_backed specs names k s (stands_at specs done part s k split e) known [] names 0 refl refl (λ name h. absurd (false≢true h)))
    (λ now. rows_backed specs names (done ++ s ∷ []) part (k + 1) (ap (λ n. n + 1) e ∙ sym (length-append done (s ∷ [])))
    (split ∙ sym (append_assoc done (s ∷ []) part)) now)

-- one id
id_backed : (specs : List Spec) (names : List (List ℕ)) (known : List Mapped) (s : ℕ × Spec) (b : Bool) (id : Option (List ℕ))
    → slice_get specs s.0 ≡ Some s.1 → id_of s.1.source ≡ id
    → Backed (HasOrigin specs names) known (cond b []
    (option_to_list (option_map (λ bytes. mapped None (ObjectId bytes) (local_of s.1 []) s.0) id)))
id_backed specs names known s true id l e = tt
id_backed specs names known s false None l e = tt
id_backed specs names known s false (Some bytes) l e = (inl (record { origin = s.1; at_place = l; taken = e }), tt)

-- the ids of a part
ids_backed : (specs : List Spec) (names : List (List ℕ)) (done part : List Spec) (k : ℕ) → k ≡ length done → specs ≡ done ++ part
    → (known : List Mapped) → Backed (HasOrigin specs names) known (flat_map id_mapping (enumerate_from k part))
unfolding id_mapping
ids_backed specs names done [] k e split known = tt
ids_backed specs names done (s ∷ part) k e split known =
    backed_append (HasOrigin specs names) known (id_mapping (k, s)) (flat_map id_mapping (enumerate_from (k + 1) part))
    (id_backed specs names known (k, s) (is_negative s.sign) (id_of s.source) (stands_at specs done part s k split e) refl)
    (λ now. ids_backed specs names (done ++ s ∷ []) part (k + 1) (ap (λ n. n + 1) e ∙ sym (length-append done (s ∷ [])))
    (split ∙ sym (append_assoc done (s ∷ []) part)) now)

-- each mapping has a refspec and a source
pub have_origins : (specs : List Spec) (names : List (List ℕ)) → AllByRecursion (HasOrigin specs names) (mappings specs names)
have_origins specs names =
    firsts_are_good (HasOrigin specs names) (id_mappings specs ++ pairs specs names)
    (backed_append (HasOrigin specs names) [] (id_mappings specs) (pairs specs names)
    (ids_backed specs names [] specs 0 refl refl [])
    (λ now. rows_backed specs names [] specs 0 refl refl now))
