-- The full names that refspecs may mean.
use Rattle.std.proofs.Common.{◌≡◌, ℕ, ◌+◌, ◌<◌, zero, suc, Bool, true, false, List, [], ◌∷◌, ◌++◌, length, take, cond, map, get_or, refl, sym, ap, ◌∙◌, inl, inr, arith}
use Rattle.std.specs.Prelude.{◌||◌}
use Rattle.std.specs.Borrow.{Bor}
use Rattle.std.specs.HashSet.{HashSet, Updates}
use Rattle.std.specs.List.{flat_map}
use Rattle.std.specs.Str.{bytes_eq}
use Rattle.std.proofs.lemmas.Bool.{cases_Bool, false≢true, or_left, or_right}
use Rattle.std.proofs.lemmas.List.Folds.{list_any-append}
use Rattle.std.proofs.lemmas.Slice.Eq.{bytes_eq-Decides}
use Rattle.gixp_refspec.specs.declared.needle.Needle.TheVariants.{Exact as the_exact, Short as the_short}
use Rattle.gixp_refspec.specs.Matching.{Exact, Short, kind_of, is_pattern, candidates, prefixes_by, prefixes_of}
use Rattle.gixp_refspec.specs.Needle.{IsNeedle}
use Rattle.gixp_refspec.specs.Spec.{Spec, is_id, is_negative}
use Rattle.gixp_matching.specs.Digest.{tail}
use Rattle.gixp_matching.specs.Rows.{AreSought}
use Rattle.gixp_matching.specs.Sought.{sought_by, is_among, has_key, has_tail}
use Rattle.gixp_packetline.proofs.ListLemmas.{take-map_more}
use Rattle.gixp_matching.proofs.FirstLemmas.{or_none}
use Rattle.gixp_matching.proofs.KeyLemmas.{bytes_eq-turned}

-- the prefixes of a refspec without a pattern are looked up
prefixes_sought : (s : Spec) → is_pattern s.source ≡ false → is_negative s.sign ≡ false
    → sought_by s ≡ prefixes_by (kind_of s.source) s.source
unfolding prefixes_of
prefixes_sought s plain positive = rw (plain, positive) refl

exact_is_plain : (source : List ℕ) → kind_of source ≡ Exact → is_pattern source ≡ false
unfolding kind_of
exact_is_plain source h = elim (cases_Bool (is_id source)) [
  | inl t ↦ absurd (let x = rw t at h in cc)
  | inr f ↦ elim (cases_Bool (is_pattern source)) [
    | inl t ↦ absurd (let x = rw (f, t) at h in cc)
    | inr plain ↦ plain
  ]
]

short_is_plain : (source : List ℕ) → kind_of source ≡ Short → is_pattern source ≡ false
unfolding kind_of
short_is_plain source h = elim (cases_Bool (is_id source)) [
  | inl t ↦ absurd (let x = rw t at h in cc)
  | inr f ↦ elim (cases_Bool (is_pattern source)) [
    | inl t ↦ absurd (let x = rw (f, t) at h in cc)
    | inr plain ↦ plain
  ]
]

pub itself : (name : List ℕ) → bytes_eq name name ≡ true
itself name = (bytes_eq-Decides name name).1 refl

-- an exact name is looked up
pub exact_sought : (s : Spec) (name : Bor (List ℕ)) → is_negative s.sign ≡ false → IsNeedle s.source (the_exact name)
    → is_among (sought_by s) name.now ≡ true
exact_sought s name positive made =
    ap (λ texts. is_among texts name.now) (prefixes_sought s (exact_is_plain s.source made.0) positive
    ∙ ap (λ kind. prefixes_by kind s.source) made.0)
    ∙ ap (λ text. is_among (text ∷ []) name.now) (sym made.1) ∙ or_left _ _ (itself name.now)

-- the full names that a short name may mean are looked up
pub short_sought : (s : Spec) (name : Bor (List ℕ)) → is_negative s.sign ≡ false → IsNeedle s.source (the_short name)
    → sought_by s ≡ candidates name.now
short_sought s name positive made =
    prefixes_sought s (short_is_plain s.source made.0) positive ∙ ap (λ kind. prefixes_by kind s.source) made.0
    ∙ ap candidates (sym made.1)

among_part : {A : Type 0} (h : A → Spec) (xs : List A) (i : ℕ) (d : A) (text : List ℕ) → i < length xs
    → is_among (sought_by (h (get_or xs i d))) text ≡ true → is_among (flat_map sought_by (map h xs)) text ≡ true
among_part h [] i d text l is = absurd (omega arith)
among_part h (x ∷ xs) zero d text l is =
    list_any-append (λ t. bytes_eq text t) (sought_by (h x)) (flat_map sought_by (map h xs)) ∙ or_left _ _ is
among_part h (x ∷ xs) (suc i) d text l is =
    list_any-append (λ t. bytes_eq text t) (sought_by (h x)) (flat_map sought_by (map h xs))
    ∙ or_right _ _ (among_part h xs i d text (omega arith) is)

-- the full names of one of the refspecs are looked up
pub sought_at : {A : Type 0} (h : A → Spec) (xs : List A) (i : ℕ) (x : A) → x ≡ get_or xs i x → i < length xs
    → AreSought (flat_map sought_by (map h xs)) (sought_by (h x))
sought_at h xs i x e l text is = among_part h xs i x text l (ap (λ y. is_among (sought_by (h y)) text) (sym e) ∙ is)

either_way : (a b : Bool) → cond a true b ≡ (b || a)
either_way true true = refl
either_way true false = refl
either_way false true = refl
either_way false false = refl

-- a set with one more name
pub name_added : {S : Type 0} (old new : HashSet (Bor (List ℕ)) S) (key : Bor (List ℕ)) (name text : List ℕ)
    → Updates (λ x y. bytes_eq x.now y.now) old new key true → key.now ≡ name
    → has_key new text ≡ (has_key old text || bytes_eq text name)
name_added old new key name text updates is =
    updates.0 (record { ref_ptr = (0, 0); now = text }) ∙ either_way (bytes_eq key.now text) (has_key old text)
    ∙ ap (λ b. has_key old text || b) (bytes_eq-turned key.now text ∙ ap (bytes_eq text) is)

-- a step of a loop that adds each name
pub names_more : {A S : Type 0} (h : A → List ℕ) (xs : List A) (i : ℕ) (x : A) (now new : HashSet (Bor (List ℕ)) S) → x ≡ get_or xs i x
    → i < length xs → ((text : List ℕ) → has_key now text ≡ is_among (take i (map h xs)) text)
    → ((text : List ℕ) → has_key new text ≡ (has_key now text || bytes_eq text (h x)))
    → (text : List ℕ) → has_key new text ≡ is_among (take (i + 1) (map h xs)) text
names_more h xs i x now new e l kept step text =
    step text ∙ ap (λ b. b || bytes_eq text (h x)) (kept text)
    ∙ ap (λ b. is_among (take i (map h xs)) text || b) (sym (or_none (bytes_eq text (h x))))
    ∙ sym (ap (λ texts. is_among texts text) (take-map_more h xs i x l ∙ ap (λ y. take i (map h xs) ++ h y ∷ []) (sym e))
    ∙ list_any-append (λ t. bytes_eq text t) (take i (map h xs)) (h x ∷ []))

-- ---- the last bytes of names

one_of : (a b : Bool) → (a || b) ≡ true → (b ≡ false) → a ≡ true
one_of true b h n = refl
one_of false b h n = absurd (false≢true (sym n ∙ h))

-- a step of a loop that adds the last bytes of each name
pub tails_more : {A S : Type 0} (h : A → List ℕ) (xs : List A) (i : ℕ) (x : A) (now new : HashSet ℕ S) → x ≡ get_or xs i x
    → i < length xs → ((text : List ℕ) → is_among (take i (map h xs)) text ≡ true → has_tail now (tail text) ≡ true)
    → has_tail new (tail (h x)) ≡ true → ((number : ℕ) → has_tail now number ≡ true → has_tail new number ≡ true)
    → (text : List ℕ) → is_among (take (i + 1) (map h xs)) text ≡ true → has_tail new (tail text) ≡ true
tails_more h xs i x now new e l kept own others text is =
    let both = sym (ap (λ texts. is_among texts text) (take-map_more h xs i x l ∙ ap (λ y. take i (map h xs) ++ h y ∷ []) (sym e))
    ∙ list_any-append (λ t. bytes_eq text t) (take i (map h xs)) (h x ∷ [])) ∙ is in
    elim (cases_Bool (bytes_eq text (h x))) [
      | inl t ↦ ap (λ y. has_tail new (tail y)) ((bytes_eq-Decides text (h x)).0 t) ∙ own
      | inr f ↦ others (tail text) (kept text (one_of _ _ both (ap (λ b. b || false) f)))
    ]
