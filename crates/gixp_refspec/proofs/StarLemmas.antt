-- The first asterisk of a text.
use Rattle.std.proofs.Common.{◌≡◌, ℕ, suc, ◌+◌, Bool, true, false, List, [], ◌∷◌, length, nat_lt, arith, cond, Some, None, ap, sym, ◌∙◌, refl, inl, inr}
use Rattle.std.specs.List.{position, position_or_len}
use Rattle.std.proofs.lemmas.Bool.{cases_Bool, cases_lt, lt-ltb, le-ltb}
use Rattle.std.proofs.lemmas.List.Sums.{sum_by-cons}
use Rattle.gixp_refspec.specs.Spec.{stars}
use Rattle.gixp_refspec.specs.Matching.{is_star, is_pattern}

stars-cons : (b : ℕ) (bs : List ℕ) → stars (b ∷ bs) ≡ cond (is_star b) 1 0 + stars bs
unfolding stars
stars-cons b bs = sum_by-cons (λ x. cond (is_star x) 1 0) b bs

no_stars : stars [] ≡ 0
unfolding stars
no_stars = refl

lt_suc : (a n : ℕ) → nat_lt (suc a) (suc n) ≡ nat_lt a n
lt_suc a n = elim (cases_lt a n) [
  | inl l ↦ lt-ltb (suc a) (suc n) (omega arith) ∙ sym (lt-ltb a n l)
  | inr g ↦ le-ltb (suc a) (suc n) (omega arith) ∙ sym (le-ltb a n g)
]

-- the first asterisk is before the end, if there is one
before_end : (text : List ℕ) → nat_lt (position_or_len is_star text) (length text) ≡ is_pattern text
before_end [] = ap (nat_lt 0) (sym no_stars)
before_end (b ∷ bs) = elim (cases_Bool (is_star b)) [
  | inl t ↦ (
      let here : position_or_len is_star (b ∷ bs) ≡ 0 = rw t refl in
      let more : stars (b ∷ bs) ≡ 1 + stars bs = rw t at (stars-cons b bs) in
      lt-ltb (position_or_len is_star (b ∷ bs)) (length (b ∷ bs)) (omega arith) ∙ sym (lt-ltb 0 (stars (b ∷ bs)) (omega arith)))
  | inr f ↦ (
      let there : position_or_len is_star (b ∷ bs) ≡ suc (position_or_len is_star bs) = rw f (omega arith) in
      let count : stars (b ∷ bs) ≡ 0 + stars bs = rw f at (stars-cons b bs) in
      let same : stars (b ∷ bs) ≡ stars bs = omega arith in
      ap (λ n. nat_lt n (suc (length bs))) there ∙ lt_suc (position_or_len is_star bs) (length bs) ∙ before_end bs ∙ ap (nat_lt 0)
      (sym same))
]

cond_some : {A : Type 0} (b : Bool) (x y : A) → cond b (Some x) None ≡ Some y → (b ≡ true) × (y ≡ x)
cond_some true x y e = (refl, cc)
cond_some false x y e = cc

cond_none : {A : Type 0} (b : Bool) (x : A) → cond b (Some x) None ≡ None → b ≡ false
cond_none true x e = cc
cond_none false x e = refl

-- a text with an asterisk at this offset
pub star_at : (text : List ℕ) (at : ℕ) → position is_star text ≡ Some at → (is_pattern text ≡ true) × (at ≡ position_or_len is_star text)
star_at text at e =
    let both = cond_some (nat_lt (position_or_len is_star text) (length text)) (position_or_len is_star text) at e in
    (sym (before_end text) ∙ both.0, both.1)

pub no_star : (text : List ℕ) → position is_star text ≡ None → is_pattern text ≡ false
no_star text e =
    sym (before_end text) ∙ cond_none (nat_lt (position_or_len is_star text) (length text)) (position_or_len is_star text) e
