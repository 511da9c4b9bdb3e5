-- Several calls that don't change how the content ends (gitprotocol-pack, "Packfile Data").
use Rattle.std.proofs.Common.{subst, ◌∙◌, refl}
use Rattle.std.specs.Prelude.{◌≡◌, Option, Some, None, IfSome}
use Rattle.gixp_packetline.specs.Pieces.{Pieces}
use Rattle.gixp_packetline.specs.Reading.{Reading}
use Rattle.gixp_sidebands.specs.Bands.{end_left, KeepsEnd}

-- nothing was read
pub end-stays : (r : Reading) → KeepsEnd r r
end-stays r = at r.to_come
  where
    at : (o : Option Pieces) → IfSome o (λ p. (q : Pieces) × (o ≡ Some q) × (end_left r q ≡ end_left r p))
    at None = tt
    at (Some p) = (p, refl, refl)

-- two such calls after each other
pub end-joins : (a b c : Reading) → KeepsEnd a b → KeepsEnd b c → KeepsEnd a c
end-joins a b c h k = at a.to_come b.to_come h k
  where
    at : (o n : Option Pieces) → IfSome o (λ p. (q : Pieces) × (n ≡ Some q) × (end_left b q ≡ end_left a p))
        → IfSome n (λ p. (q : Pieces) × (c.to_come ≡ Some q) × (end_left c q ≡ end_left b p))
        → IfSome o (λ p. (q : Pieces) × (c.to_come ≡ Some q) × (end_left c q ≡ end_left a p))
    at None n x y = tt
    at (Some p) None x y = absurd (let e = x.1 in cc)
    at (Some p) (Some r) x y =
        let same : x.0 ≡ r = let e = x.1 in cc in
        (y.0, y.1, y.2 ∙ subst (λ z. end_left b z ≡ end_left a p) same x.2)
