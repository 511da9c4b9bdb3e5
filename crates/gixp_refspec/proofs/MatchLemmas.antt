-- Names that are a front, a middle and a back.
use Rattle.std.proofs.Common.{◌≡◌, ◌≢◌, ℕ, ◌+◌, ◌-◌, Bool, false, List, ◌++◌, length, take, drop, Option, Some, None, Bor, ap, sym, ◌∙◌, refl, arith, inl, inr, length-append}
use Rattle.std.specs.Prelude.{MatchOption}
use Rattle.std.specs.Option.{option_copied}
use Rattle.std.specs.Str.{bytes_eq}
use Rattle.std.proofs.lemmas.Bool.{cond-true, cond-false, false_from_ne_true, cases_Bool}
use Rattle.std.proofs.lemmas.Bool.Decides.{same_from_decides}
use Rattle.std.proofs.lemmas.Slice.Eq.{bytes_eq-Decides}
use Rattle.std.proofs.lemmas.List.Prefix.{front_rest}
use Rattle.std.proofs.Math.Seq.{take-append_seam, drop-append_seam}
use Rattle.gixp_refspec.specs.Matching.{between, inner}

-- equal fronts leave equal rests
pub same_rest : (front xs ys : List ℕ) → front ++ xs ≡ front ++ ys → xs ≡ ys
same_rest front xs ys e = sym (front_rest (front ++ xs) front xs refl) ∙ front_rest (front ++ xs) front ys e

pub false_from_other : (xs ys : List ℕ) → xs ≢ ys → false ≡ bytes_eq xs ys
false_from_other xs ys h = sym (false_from_ne_true _ (λ t. h ((bytes_eq-Decides xs ys).0 t)))

-- a name that doesn't begin with front is not front, middle and back
pub no_front : (name front middle back : List ℕ) → ((rest : List ℕ) → name ≢ front ++ rest)
    → false ≡ bytes_eq name (front ++ (middle ++ back))
no_front name front middle back h = false_from_other _ _ (h (middle ++ back))

-- a name that goes on with another text than middle is not front, middle and back
pub no_middle : (name front rest middle back : List ℕ) → name ≡ front ++ rest → ((r : List ℕ) → rest ≢ middle ++ r)
    → false ≡ bytes_eq name (front ++ (middle ++ back))
no_middle name front rest middle back e h = false_from_other _ _ (λ d. h back (same_rest front _ _ (sym e ∙ d)))

-- the rest after front and middle decides
pub with_back : (name front rest middle last back : List ℕ) (r : Bool) → name ≡ front ++ rest → rest ≡ middle ++ last
    → r ≡ bytes_eq last back → r ≡ bytes_eq name (front ++ (middle ++ back))
with_back name front rest middle last back r e d h =
    let all : name ≡ front ++ (middle ++ last) = e ∙ ap (λ x. front ++ x) d in
    same_from_decides r _ (
      λ t. all ∙ ap (λ x. front ++ (middle ++ x)) ((bytes_eq-Decides last back).0 (sym h ∙ t)),
      λ s. h ∙ (bytes_eq-Decides last back).1 (same_rest middle _ _ (same_rest front _ _ (sym all ∙ s))),
    ) (bytes_eq-Decides name (front ++ (middle ++ back)))

some_is : {A : Type 0} {a b : A} → Some a ≡ Some b → a ≡ b
some_is e = cc

none_is : {A : Type 0} {a : A} → None ≡ Some a → ⊥
none_is e = cc

-- the part between front and back is the middle
inner_is : (front middle back : List ℕ) → inner front back (front ++ (middle ++ back)) ≡ middle
inner_is front middle back =
    let whole = front ++ (middle ++ back) in
    let n : length whole - (length front + length back) ≡ length middle =
    omega (arith, length-append front (middle ++ back), length-append middle back) in
    ap (λ k. take k (drop (length front) whole)) n ∙ ap (take (length middle)) (drop-append_seam front (middle ++ back))
    ∙ take-append_seam middle back

-- front, middle and back joined have this middle
pub between_middle : (front middle back : List ℕ) → between front back (front ++ (middle ++ back)) ≡ Some middle
unfolding between
between_middle front middle back =
    let e = inner_is front middle back in
    let same = (bytes_eq-Decides (front ++ (middle ++ back)) (front ++ (inner front back (front ++ (middle ++ back)) ++ back))).1
    (ap (λ m. front ++ (m ++ back)) (sym e)) in
    cond-true _ _ _ same ∙ ap Some e

-- a name that is not front, any text and back has no middle
pub between_none : (front back name : List ℕ) → ((m : List ℕ) → name ≢ front ++ (m ++ back)) → between front back name ≡ None
unfolding between
between_none front back name h = cond-false _ _ _ (sym (false_from_other _ _ (h _)))

-- a name that has a middle is front, middle and back
pub between_some : (front back name middle : List ℕ) → between front back name ≡ Some middle → name ≡ front ++ (middle ++ back)
unfolding between
between_some front back name middle h = elim (cases_Bool (bytes_eq name (front ++ (inner front back name ++ back)))) [
  | inl t ↦ (
      let m : inner front back name ≡ middle = some_is (sym (cond-true _ _ _ t) ∙ h) in
      (bytes_eq-Decides _ _).0 t ∙ ap (λ x. front ++ (x ++ back)) m)
  | inr f ↦ absurd (none_is (sym (cond-false _ _ _ f) ∙ h))
]

-- the part after front and before back is the middle
pub between_from : (front back name rest : List ℕ) (r : Option (Bor (List ℕ))) → name ≡ front ++ rest
    → MatchOption r ((f : List ℕ) → rest ≢ f ++ back) (λ x. rest ≡ x.now ++ back) → option_copied r ≡ between front back name
between_from front back name rest None e h = sym (between_none front back name (λ m s. h m (same_rest front _ _ (sym e ∙ s))))
between_from front back name rest (Some x) e h =
    sym (ap (between front back) (e ∙ ap (λ z. front ++ z) h) ∙ between_middle front x.now back)
