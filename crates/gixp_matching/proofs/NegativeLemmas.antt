-- Prepared negative refspecs.
use Rattle.std.proofs.Common.{◌≡◌, ℕ, ◌+◌, ◌<◌, ◌≤◌, Bool, true, false, List, [], ◌∷◌, ◌++◌, length, take, map, get_or, inl, inr, arith, IsPermutation, ap, sym, ◌∙◌, refl}
use Rattle.std.specs.Prelude.{◌&&◌, ◌||◌, ◌==◌, not, filter, is_some}
use Rattle.std.specs.List.{list_any}
use Rattle.std.specs.Str.{bytes_eq}
use Rattle.std.proofs.lemmas.Bool.{cases_Bool, cond-true, cond-false, or_left, ne_eqb}
use Rattle.std.proofs.lemmas.List.{length-map, take_all}
use Rattle.std.proofs.lemmas.List.Sorted.{list_any-IsPermutation}
use Rattle.std.proofs.lemmas.List.Folds.{list_any-append}
use Rattle.gixp_matching.specs.declared.match_group.rows.Row.{Row}
use Rattle.gixp_refspec.specs.declared.needle.Needle.{Needle}
use Rattle.gixp_refspec.specs.declared.spec.RefSpecRef.{RefSpecRef}
use Rattle.gixp_refspec.specs.Spec.{Spec, is_negative}
use Rattle.gixp_refspec.specs.Matching.{middle_of, where_true}
use Rattle.gixp_matching.specs.Mappings.{excludes, is_excluded}
use Rattle.gixp_refspec.specs.Needle.{IsNeedle, middle_with}
use Rattle.gixp_refspec.specs.RefSpec.{value_of}
use Rattle.gixp_matching.specs.Rows.{is_row_of, is_any}
use Rattle.gixp_matching.proofs.FirstLemmas.{or_none}
use Rattle.gixp_matching.proofs.KeyLemmas.{bytes_eq-turned}
use Rattle.gixp_packetline.proofs.ListLemmas.{take-map_more}
use Rattle.gixp_matching.proofs.NeedleLemmas.{middle_with-needle}

some_where : (b : Bool) → is_some (where_true b) ≡ b
some_where true = refl
some_where false = refl

or_between : (a b c : Bool) → ((a || c) || b) ≡ ((a || b) || c)
or_between true b c = refl
or_between false true true = refl
or_between false true false = refl
or_between false false true = refl
or_between false false false = refl

or_assoc : (a b c : Bool) → (a || (b || c)) ≡ ((a || b) || c)
or_assoc true b c = refl
or_assoc false b c = refl

-- a name that the needle of a negative refspec matches is excluded
matched_is : (s : Spec) (needle : Needle) (name : List ℕ) → is_negative s.sign ≡ true → IsNeedle s.source needle
    → is_some (middle_with needle name) ≡ excludes name s
matched_is s needle name negative made = ap is_some (middle_with-needle s.source name needle made)
    ∙ ap (λ b. b && is_some (middle_of s.source name)) (sym negative)

-- a positive refspec excludes nothing
pub none_more : (rows : List Row) (needles : List Needle) (s : Spec) (name : List ℕ) → is_negative s.sign ≡ false
    → is_any rows needles name ≡ (is_any rows needles name || excludes name s)
none_more rows needles s name positive =
    sym (ap (λ b. is_any rows needles name || (b && is_some (middle_of s.source name))) positive ∙ or_none (is_any rows needles name))

-- one more exact name
pub name_more : (rows new : List Row) (needles : List Needle) (row : Row) (needle : Needle) (s : Spec) (name : List ℕ)
    → is_negative s.sign ≡ true → IsNeedle s.source needle
    → is_some (middle_with needle name) ≡ bytes_eq name row.name.now → new ≡ rows ++ row ∷ []
    → is_any new needles name ≡ (is_any rows needles name || excludes name s)
name_more rows new needles row needle s name negative made exact put =
    let others = list_any (λ n. is_some (middle_with n name)) needles in
    ap (λ rs. is_any rs needles name) put
    ∙ ap (λ b. b || others) (list_any-append (is_row_of name) rows (row ∷ [])
    ∙ ap (λ b. list_any (is_row_of name) rows || b) (or_none (is_row_of name row)))
    ∙ or_between (list_any (is_row_of name) rows) others (is_row_of name row)
    ∙ ap (λ b. is_any rows needles name || b) (bytes_eq-turned row.name.now name ∙ sym exact ∙ matched_is s needle name negative made)

-- one more needle
pub needle_more : (rows : List Row) (needles new : List Needle) (needle : Needle) (s : Spec) (name : List ℕ) → is_negative s.sign ≡ true
    → IsNeedle s.source needle
    → new ≡ needles ++ needle ∷ [] → is_any rows new name ≡ (is_any rows needles name || excludes name s)
needle_more rows needles new needle s name negative made put =
    let p : Needle → Bool = λ n. is_some (middle_with n name) in
    let first = list_any (is_row_of name) rows in
    ap (λ ns. first || list_any p ns) put ∙ ap (λ b. first || b) (list_any-append p needles (needle ∷ [])
    ∙ ap (λ b. list_any p needles || b) (or_none (p needle)))
    ∙ or_assoc first (list_any p needles) (p needle) ∙ ap (λ b. is_any rows needles name || b) (matched_is s needle name negative made)

-- the exact name of a needle
pub exact_is : (name text : List ℕ) → is_some (where_true (bytes_eq name text)) ≡ bytes_eq name text
exact_is name text = some_where (bytes_eq name text)

-- a step of the loop over the refspecs
pub prepared_more : (rows new : List Row) (needles others : List Needle) (specs : List RefSpecRef) (i : ℕ) (x : RefSpecRef)
    (name : List ℕ) → x ≡ get_or specs i x → i < length specs
    → is_any rows needles name ≡ list_any (excludes name) (take i (map value_of specs))
    → is_any new others name ≡ (is_any rows needles name || excludes name (value_of x))
    → is_any new others name ≡ list_any (excludes name) (take (i + 1) (map value_of specs))
prepared_more rows new needles others specs i x name e l kept step =
    let front = take i (map value_of specs) in
    step ∙ ap (λ b. b || excludes name (value_of x)) kept ∙ ap (λ y. list_any (excludes name) front || excludes name (value_of y)) e
    ∙ ap (λ b. list_any (excludes name) front || b) (sym (or_none (excludes name (value_of (get_or specs i x)))))
    ∙ sym (list_any-append (excludes name) front (value_of (get_or specs i x) ∷ []))
    ∙ ap (list_any (excludes name)) (sym (take-map_more value_of specs i x l))

-- an element passes exactly where a filter keeps one
pub kept_some : {X : Type 0} (p : X → Bool) (xs kept : List X) (b : Bool) → b ≡ (length kept == 0) → kept ≡ filter p xs
    → not b ≡ list_any p xs
kept_some p xs kept b is same = ap not (is ∙ ap (λ l. length l == 0) same) ∙ at p xs where
  at : {X : Type 0} (p : X → Bool) (xs : List X) → not (length (filter p xs) == 0) ≡ list_any p xs
  at p [] = refl
  at p (x ∷ xs) = elim (cases_Bool (p x)) [
    | inl t ↦ ap (λ l. not (length l == 0)) (cond-true _ _ _ t) ∙ ap not (ne_eqb (length (x ∷ filter p xs)) 0 (λ e. omega (arith, e)))
        ∙ sym (or_left _ _ t)
    | inr f ↦ ap (λ l. not (length l == 0)) (cond-false _ _ _ f) ∙ at p xs ∙ sym (ap (λ b. b || list_any p xs) f)
  ]

-- after the last refspec, once the names are sorted
pub prepared_all : (rows sorted : List Row) (needles : List Needle) (specs : List RefSpecRef) (i : ℕ) (name : List ℕ) → i ≡ length specs
    → IsPermutation rows sorted
    → is_any rows needles name ≡ list_any (excludes name) (take i (map value_of specs))
    → is_any sorted needles name ≡ is_excluded (map value_of specs) name
unfolding is_excluded
prepared_all rows sorted needles specs i name e moved kept =
    let same : length (map value_of specs) ≤ i = rw length-map (omega (arith, e)) in
    ap (λ b. b || list_any (λ n. is_some (middle_with n name)) needles) (sym (list_any-IsPermutation (is_row_of name) rows sorted moved))
    ∙ kept ∙ ap (list_any (excludes name)) (take_all i (map value_of specs) same)
