-- A refspec that is written and read again is the same.
use Rattle.std.proofs.Common.{◌≡◌, ℕ, ◌+◌, ◌≤◌, Bool, true, false, List, [], ◌∷◌, ◌++◌, length, take, drop, nat_eq, nat_lt, Option, Some, None, Ok, cond, ap, sym, ◌∙◌, refl, arith, inl, inr, suc}
use Rattle.std.specs.Prelude.{◌||◌, not, ◌==◌, unwrap_or, is_none, codes}
use Rattle.std.specs.List.{starts_with, list_all, list_any, before_first, after_first, position_or_len, position}
use Rattle.std.proofs.lemmas.Bool.{cases_lt, lt-ltb, le-ltb, and_parts, and_from, not-true, not-false, or_parts, cases_eq, ne_eqb, false≢true, cond-false, cond_both, cases_Bool, and_left, eqb-false}
use Rattle.std.proofs.lemmas.List.{append-nil}
use Rattle.std.proofs.lemmas.List.Sums.{prefix_len-le-length}
use Rattle.gixp_refspec.specs.declared.spec.Sign.{Sign}
use Rattle.gixp_refspec.specs.declared.spec.Sign.TheVariants.{Plain, Force, Exclude}
use Rattle.gixp_refspec.specs.declared.parse.Error.TheVariants.{PatternUnbalanced, PatternUnsupported, InvalidName}
use Rattle.gixp_refspec.specs.Name.{is_name, is_name_byte, is_component}
use Rattle.gixp_refspec.specs.Spec.{Spec, spec, stars, unless_fault, parts_of, fault_of, fault_in, is_spec, spec_of, text_of, keeps_sign, source_in, is_colon, source_fault, pair_fault, positive_fault, positive, or_head, non_empty, destination_text}

-- an offset in the list, or its end
at_or_end : (n len : ℕ) → n ≤ len → unwrap_or (cond (nat_lt n len) (Some n) None) len ≡ n
at_or_end n len h = elim (cases_lt n len) [ inl l ↦ rw (lt-ltb n len l) refl | inr g ↦ rw (le-ltb n len g) (omega arith) ]

same_spec : (sign : Sign) {source source' : List ℕ} {destination destination' : Option (List ℕ)} → source ≡ source'
    → destination ≡ destination' → spec sign source destination ≡ spec sign source' destination'
same_spec sign {source' = source'} {destination = destination} p q = ap (λ x. spec sign x destination) p ∙ ap (λ y. spec sign source' y) q

-- the first offset that passes the test, or the end
pub unwrap_or-position : (p : ℕ → Bool) (xs : List ℕ) → unwrap_or (position p xs) (length xs) ≡ position_or_len p xs
unwrap_or-position p xs = at_or_end (position_or_len p xs) (length xs) (prefix_len-le-length _ xs)

-- a first byte that is not a colon belongs to the front
before_first-cons : (b : ℕ) (zs : List ℕ) → is_colon b ≡ false → before_first is_colon (b ∷ zs) ≡ b ∷ before_first is_colon zs
before_first-cons b zs h =
    let e : position_or_len is_colon (b ∷ zs) ≡ suc (position_or_len is_colon zs) = rw h (omega arith) in
    ap (λ n. take n (b ∷ zs)) e

-- the text after the first colon doesn't depend on a first byte that is not a colon
after_first-cons : (b : ℕ) (zs : List ℕ) → is_colon b ≡ false → after_first is_colon (b ∷ zs) ≡ after_first is_colon zs
after_first-cons b zs h =
    let e : position_or_len is_colon (b ∷ zs) + 1 ≡ suc (position_or_len is_colon zs + 1) = rw h (omega arith) in
    ap (λ n. drop n (b ∷ zs)) e

-- the text before the first colon
before_first_at : (xs ys : List ℕ) → list_any is_colon xs ≡ false → before_first is_colon (xs ++ 58 ∷ ys) ≡ xs
before_first_at [] ys h = refl
before_first_at (b ∷ bs) ys h =
    let both = or_parts (is_colon b) (list_any is_colon bs) h in
    before_first-cons b (bs ++ 58 ∷ ys) both.0 ∙ ap (λ r. b ∷ r) (before_first_at bs ys both.1)

-- the text after the first colon
after_first_at : (xs ys : List ℕ) → list_any is_colon xs ≡ false → after_first is_colon (xs ++ 58 ∷ ys) ≡ ys
after_first_at [] ys h = refl
after_first_at (b ∷ bs) ys h =
    let both = or_parts (is_colon b) (list_any is_colon bs) h in
    after_first-cons b (bs ++ 58 ∷ ys) both.0 ∙ after_first_at bs ys both.1

-- without a colon the whole text is before it
before_first_none : (xs : List ℕ) → list_any is_colon xs ≡ false → before_first is_colon (xs ++ []) ≡ xs
before_first_none [] h = refl
before_first_none (b ∷ bs) h =
    let both = or_parts (is_colon b) (list_any is_colon bs) h in
    before_first-cons b (bs ++ []) both.0 ∙ ap (λ r. b ∷ r) (before_first_none bs both.1)

-- without a colon no text is after it
after_first_none : (xs : List ℕ) → list_any is_colon xs ≡ false → after_first is_colon (xs ++ []) ≡ []
after_first_none [] h = refl
after_first_none (b ∷ bs) h =
    let both = or_parts (is_colon b) (list_any is_colon bs) h in
    after_first-cons b (bs ++ []) both.0 ∙ after_first_none bs both.1

-- if each byte passes p and m doesn't, m is not among them
pub without : (p : ℕ → Bool) (m : ℕ) → p m ≡ false → (xs : List ℕ) → list_all p xs ≡ true → list_any (λ b. b == m) xs ≡ false
without p m h [] all = refl
without p m h (b ∷ bs) all =
    let both = and_parts (p b) (list_all p bs) all in
    let other : (b == m) ≡ false = elim (cases_eq b m) [
      | inl e ↦ absurd (false≢true (sym h ∙ ap p (sym e) ∙ both.0))
      | inr ne ↦ ne_eqb b m ne
    ] in
    rw other (without p m h bs both.1)

pub name_bytes : (xs : List ℕ) → is_name xs ≡ true → list_all is_name_byte xs ≡ true
unfolding is_name
name_bytes xs h = (and_parts _ _ (and_parts _ _ h).0).1

name_not_empty : is_name [] ≡ true → ⊥
unfolding is_name is_component is_name_byte
name_not_empty h = cc

-- bytes that a source doesn't have
pub record IsBody (xs : List ℕ) : Type 0 where
  pub no_colon : list_any is_colon xs ≡ false
  pub no_caret : list_any (λ b. b == 94) xs ≡ false
  pub not_empty : xs ≡ [] → ⊥

-- the rules of git-check-ref-format exclude these bytes
body_from_name : (xs : List ℕ) → is_name xs ≡ true → IsBody xs
unfolding is_name_byte
body_from_name xs h = record {
  no_colon = without is_name_byte 58 refl xs (name_bytes xs h);
  no_caret = without is_name_byte 94 refl xs (name_bytes xs h);
  not_empty = λ e. name_not_empty (ap is_name (sym e) ∙ h);
}

none_same : {A : Type 0} {a : A} → None ≡ Some a → ⊥
none_same e = cc

some_same : {A : Type 0} {a b : A} → Some a ≡ Some b → a ≡ b
some_same e = cc

none_from_is_none : {E : Type 0} {o : Option E} → is_none o ≡ true → o ≡ None
none_from_is_none {o = None} h = refl
none_from_is_none {o = Some e} h = cc

-- no error means that its test is false
guard_none : {E : Type 0} (b : Bool) (e : E) (o : Option E) → cond b (Some e) o ≡ None → (b ≡ false) × (o ≡ None)
guard_none true e o h = cc
guard_none false e o h = (refl, h)

pub record IsWhole (source : List ℕ) (destination : Option (List ℕ)) : Type 0 where
  pub source_is : IsBody source
  pub not_empty : destination ≡ Some [] → ⊥

-- a valid source without a destination
whole_source : (source : List ℕ) → source_fault source ≡ None → IsWhole source None
unfolding source_fault
whole_source source h =
    let rest = cond (not (is_name source)) (Some InvalidName) None in
    let first = guard_none (nat_lt 1 (stars source)) PatternUnsupported rest h in
    let second = guard_none (not (is_name source)) InvalidName None first.1 in
    record { source_is = body_from_name source (not-false _ second.0); not_empty = none_same }

-- a valid source with a valid destination
whole_pair : (source destination : List ℕ) → pair_fault source destination ≡ None → IsWhole source (Some destination)
unfolding pair_fault
whole_pair source destination h =
    let names = cond (not (is_name source) || not (is_name destination)) (Some InvalidName) None in
    let balanced = cond (not (stars source == stars destination)) (Some PatternUnbalanced) names in
    let first = guard_none (nat_lt 1 (stars source) || nat_lt 1 (stars destination)) PatternUnsupported balanced h in
    let second = guard_none (not (stars source == stars destination)) PatternUnbalanced names first.1 in
    let third = guard_none (not (is_name source) || not (is_name destination)) InvalidName None second.1 in
    let both = or_parts _ _ third.0 in
    record {
      source_is = body_from_name source (not-false _ both.0);
      not_empty = λ e. let d : destination ≡ [] = some_same e in name_not_empty (ap is_name (sym d) ∙ not-false _ both.1);
    }

pub whole_from_none : (source : List ℕ) (destination : Option (List ℕ)) → positive_fault source destination ≡ None
    → IsWhole source destination
whole_from_none source None h = whole_source source h
whole_from_none source (Some destination) h = whole_pair source destination h

-- a nonempty source is unchanged
or_head_same : (xs : List ℕ) → (xs ≡ [] → ⊥) → or_head xs ≡ xs
or_head_same [] h = absurd (h refl)
or_head_same (b ∷ bs) h = refl

-- a nonempty destination is unchanged
non_empty_same : (xs : List ℕ) → (Some xs ≡ Some [] → ⊥) → non_empty xs ≡ Some xs
non_empty_same [] h = absurd (h refl)
non_empty_same (b ∷ bs) h = refl

-- the text of valid parts is split into these parts
positive_same : (sign : Sign) (source : List ℕ) (destination : Option (List ℕ)) → IsWhole source destination
    → positive sign (source ++ destination_text destination) ≡ spec sign source destination
positive_same sign source None h =
    let s = before_first_none source h.source_is.no_colon in
    let d = after_first_none source h.source_is.no_colon in
    let first = ap or_head s ∙ or_head_same source h.source_is.not_empty in
    let second = ap non_empty d in
    same_spec sign first second
positive_same sign source (Some destination) h =
    let s = before_first_at source destination h.source_is.no_colon in
    let d = after_first_at source destination h.source_is.no_colon in
    let first = ap or_head s ∙ or_head_same source h.source_is.not_empty in
    let second = ap non_empty d ∙ non_empty_same destination h.not_empty in
    same_spec sign first second

-- the source of a text that begins with no plus begins with none
plain_keeps : (text : List ℕ) → starts_with nat_eq text (codes "+") ≡ false → not (starts_with nat_eq (source_in text) (codes "+")) ≡ true
plain_keeps [] apart = refl
plain_keeps (b ∷ bs) apart = elim (cases_Bool (is_colon b)) [
  | inl here ↦ (
      let e : position_or_len is_colon (b ∷ bs) ≡ 0 = rw here refl in
      ap (λ n. not (starts_with nat_eq (or_head (take n (b ∷ bs))) (codes "+"))) e)
  | inr other ↦ ap (λ r. not (starts_with nat_eq (or_head r) (codes "+"))) (before_first-cons b bs other) ∙ ap not apart
]

-- the source of a text without a sign doesn't begin with a plus
keeps_parts : (text : List ℕ) → keeps_sign (parts_of text).sign (parts_of text).source ≡ true
unfolding parts_of
keeps_parts text =
    let P : Spec → Type 0 = λ s. keeps_sign s.sign s.source ≡ true in
    let plus = cond (starts_with nat_eq text (codes "+")) (positive Force (drop 1 text)) (positive Plain text) in
    cond_both (starts_with nat_eq text (codes "^")) (spec Exclude (drop 1 text) None) plus P (λ _. refl) (λ _.
    cond_both (starts_with nat_eq text (codes "+")) (positive Force (drop 1 text)) (positive Plain text) P (λ _. refl)
    (λ apart. plain_keeps text apart))

-- valid parts of a text are a refspec
pub is_spec-parts_of : (text : List ℕ) → fault_of (parts_of text) ≡ None → is_spec (parts_of text) ≡ true
unfolding is_spec
is_spec-parts_of text h = and_from _ _ (ap is_none h) (keeps_parts text)

-- parts that were split from a text and are valid are a refspec
pub is_spec_from_parts : (text : List ℕ) (s : Spec) → s ≡ parts_of text → None ≡ fault_of s → is_spec s ≡ true
is_spec_from_parts text s e h = ap is_spec e ∙ is_spec-parts_of text (ap fault_of (sym e) ∙ sym h)

-- a text that begins with no sign is a refspec without one
plain_parts : (text : List ℕ) → starts_with nat_eq text (codes "^") ≡ false → starts_with nat_eq text (codes "+") ≡ false
    → parts_of text ≡ positive Plain text
unfolding parts_of
plain_parts text no_caret no_plus = cond-false _ _ _ no_caret ∙ cond-false _ _ _ no_plus

-- a text doesn't begin with a byte that it doesn't have
starts_other : (xs ys : List ℕ) (m : ℕ) → (xs ≡ [] → ⊥) → list_any (λ b. b == m) xs ≡ false → starts_with nat_eq (xs ++ ys) (m ∷ []) ≡ false
starts_other [] ys m some none = absurd (some refl)
starts_other (b ∷ bs) ys m some none =
    let other = or_parts (b == m) (list_any (λ c. c == m) bs) none in
    and_left _ _ (ne_eqb m b (λ e. eqb-false b m other.0 (sym e)))

-- the first byte is that of the front
starts_same : (xs ys : List ℕ) (m : ℕ) → (xs ≡ [] → ⊥) → starts_with nat_eq (xs ++ ys) (m ∷ []) ≡ starts_with nat_eq xs (m ∷ [])
starts_same [] ys m some = absurd (some refl)
starts_same (b ∷ bs) ys m some = refl

-- the text of a refspec is split into its parts
reads : (sign : Sign) (source : List ℕ) (destination : Option (List ℕ)) → fault_in sign source destination ≡ None
    → keeps_sign sign source ≡ true → parts_of (text_of (spec sign source destination)) ≡ spec sign source destination
unfolding parts_of
reads Plain source destination none keeps =
    let whole = whole_from_none source destination none in
    let some = whole.source_is.not_empty in
    let no_caret = starts_other source (destination_text destination) 94 some whole.source_is.no_caret in
    let no_plus = starts_same source (destination_text destination) 43 some ∙ not-true _ keeps in
    plain_parts (source ++ destination_text destination) no_caret no_plus ∙ positive_same Plain source destination whole
reads Force source destination none keeps = positive_same Force source destination (whole_from_none source destination none)
reads Exclude source None none keeps = ap (λ r. spec Exclude r None) (append-nil source)
reads Exclude source (Some destination) none keeps = cc

-- the text of a refspec means this refspec
pub spec_of-text_of : (s : Spec) → is_spec s ≡ true → spec_of (text_of s) ≡ Ok s
unfolding is_spec
spec_of-text_of s h =
    let both = and_parts _ _ h in
    let none = none_from_is_none both.0 in
    ap (λ v. unless_fault (fault_of v) v) (reads s.sign s.source s.destination none both.1) ∙ ap (λ o. unless_fault o s) none
