-- Bytes of content that are passed on, piece by piece.
use Rattle.std.proofs.Common.{◌≡◌, ℕ, List, [], ◌++◌, refl, ap, sym, ◌∙◌, subst, Option, Some, None}
use Rattle.std.proofs.lemmas.List.{append_assoc}
use Rattle.std.specs.Prelude.{IfSome}
use Rattle.gixp_packetline.specs.Pieces.{Pieces}
use Rattle.gixp_sidebands.specs.Bands.{Side, IsFirstOf, side_content, Passes}

pub passes_none : (s : Side) → Passes s s []
passes_none s = at s.reading.to_come
  where
    at : (o : Option Pieces) → IfSome o (λ p. IsFirstOf s p → (q : Pieces) × (o ≡ Some q) × IsFirstOf s q
        × (side_content s p ≡ [] ++ side_content s q))
    at None = tt
    at (Some p) = λ f. (p, refl, f, refl)

pub passes_more : (a b c : Side) (xs ys : List ℕ) → Passes a b xs → Passes b c ys → Passes a c (xs ++ ys)
passes_more a b c xs ys h k = at a.reading.to_come b.reading.to_come h k
  where
    at : (o n : Option Pieces)
        → IfSome o (λ p. IsFirstOf a p → (q : Pieces) × (n ≡ Some q) × IsFirstOf b q × (side_content a p ≡ xs ++ side_content b q))
        → IfSome n (λ p. IsFirstOf b p → (q : Pieces) × (c.reading.to_come ≡ Some q) × IsFirstOf c q
        × (side_content b p ≡ ys ++ side_content c q))
        → IfSome o (λ p. IsFirstOf a p → (q : Pieces) × (c.reading.to_come ≡ Some q) × IsFirstOf c q
        × (side_content a p ≡ (xs ++ ys) ++ side_content c q))
    at None n x y = tt
    at (Some p) None x y = λ f. let e = (x f).1 in cc
    at (Some p) (Some r) x y = λ f.
        let u = x f in
        let same : r ≡ u.0 = cc in
        let v = y (subst (λ z. IsFirstOf b z) (sym same) u.2) in (
          v.0,
          v.1,
          v.2,
          u.3 ∙ (ap (λ z. xs ++ side_content b z) (sym same)
              ∙ (ap (λ z. xs ++ z) v.3 ∙ sym (append_assoc xs ys (side_content c v.0)))),
        )
