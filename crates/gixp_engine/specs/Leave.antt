-- A consumer that reads nothing of a pack.
use Rattle.std.specs.Prelude.{◌≡◌, ℕ, List, [], ◌++◌, Option, Some, None, IfSome}
use Rattle.std.proofs.Common.{refl, sym, subst}
use Rattle.gixp_packetline.specs.Pieces.{Pieces}
use Rattle.gixp_sidebands.specs.Bands.{Side, IsFirstOf, side_content, side_reading, end_left}
use Rattle.gixp_fetch.specs.Receive.{ReadsOn}

-- nothing was read, and everything is still to read
stays : (s : Side) (o : Option Pieces) → IfSome o (λ p. IsFirstOf s p → (q : Pieces) × (o ≡ Some q) × IsFirstOf s q
    × (side_content s p ≡ [] ++ side_content s q))
stays s None = tt
stays s (Some p) = λ f. (p, refl, f, refl)

-- the end of the stream is the same
ends : (s : Side) (o : Option Pieces) → IfSome o (λ p. (q : Pieces) × (o ≡ Some q) × (end_left s.reading q ≡ end_left s.reading p))
ends s None = tt
ends s (Some p) = (p, refl, refl)

pub leaves_owes : (s t : Side) → t ≡ s → (read : List ℕ) × ReadsOn s t read × ((side_reading t).held ≡ (side_reading s).held)
leaves_owes s t e = subst (λ u. (read : List ℕ) × ReadsOn s u read × ((side_reading u).held ≡ (side_reading s).held)) (sym e)
    ([], record { content = stays s s.reading.to_come; ending = λ _. ends s s.reading.to_come }, refl)
