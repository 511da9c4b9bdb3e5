-- The calls of the interrupt, one after each packet of bands 2 and 3 (gitprotocol-pack, "Packfile Data").
use Rattle.std.specs.Prelude.{◌≡◌, ℕ, ◌+◌, ◌-◌, ◌^◌, ◌≤◌, min, ◌⊎◌, Bool, true, false, List, [], ◌∷◌, ◌++◌, length, Some, IfSome}
use Rattle.std.specs.declared.io.ErrorKind.TheVariants.{UnexpectedEof}
use Rattle.gixp_packetline.specs.Pieces.{io, unexpected_frame, Piece, line, mark, Pieces, no_pieces}
use Rattle.gixp_packetline.specs.Reading.{Reading}
use Rattle.gixp_sidebands.specs.declared.sidebands.band.Band.{Band}
use Rattle.gixp_sidebands.specs.declared.sidebands.band.Band.TheVariants.{Text}
use Rattle.gixp_sidebands.specs.Bands.{band_of, IsUncounted}

abbrev pub one_if : Bool → ℕ
one_if true = 1
one_if false = 0

abbrev pub is_text : Band → Bool
is_text (Text is_error) = true
is_text _ = false

-- the number of packets of bands 2 and 3 among these packet lines
abbrev pub texts_in : List Piece → ℕ
texts_in [] = 0
texts_in (line text ∷ ps) = one_if (is_text (band_of text)) + texts_in ps
texts_in (mark kind ∷ ps) = texts_in ps

-- the packet lines still to come: the rest; or none after an unexpected packet, or after a counted read failure with `UnexpectedEof`
abbrev pub IsLeft : Reading → Reading → Pieces → Pieces → Type 0
IsLeft old new rest left = (left ≡ rest) ⊎ (left ≡ no_pieces unexpected_frame)
    ⊎ ((left ≡ no_pieces (io UnexpectedEof)) × (IsUncounted old new → ⊥))

-- the packet lines that came first were taken; this many of them are packets of bands 2 and 3
pub record TakesTexts (count : ℕ) (old new : Reading) (p : Pieces) : Type 0 where
  pub taken : List Piece
  pub rest : Pieces
  pub begins : p ≡ record { list = taken ++ rest.list; end = rest.end }
  pub texts : texts_in taken ≡ count
  pub left : Pieces
  pub to_come : new.to_come ≡ Some left
  pub is_left : IsLeft old new rest left

-- the count of failures didn't fall, up to its greatest value
abbrev pub NoFewer : Reading → Reading → Type 0
NoFewer old new = min old.failures (2 ^ 64 - 1) ≤ new.failures

module _ {I : Type 0} (polls : I → Bool → I → Type 0) where
  -- the interrupt was called once for each of these states and returned false; if the flag is true, it was called once
  -- more and returned true
  abbrev pub PollsEach : List I → Bool → I → I → Type 0
  PollsEach [] false a b = b ≡ a
  PollsEach [] true a b = polls a true b
  PollsEach (x ∷ xs) stops a c = polls a false x × PollsEach xs stops x c

  -- the interrupt was called once after each packet of bands 2 and 3 that was taken; if the flag is true, its last call returned true
  pub record Asked (stops : Bool) (old new : Reading) (a b : I) : Type 0 where
    pub after : List I
    pub polled : PollsEach after stops a b
    pub failures : NoFewer old new
    pub each : IfSome old.to_come (TakesTexts (length after + one_if stops) old new)

  -- the same; but if the reader below isn't plain, its own interrupt may have returned true
  abbrev pub AskedBelow : Bool → Bool → Reading → Reading → I → I → Type 0
  AskedBelow plain stops old new a b = Asked stops old new a b ⊎ ((plain ≡ false) × (stops ≡ true) × Asked false old new a b)
