-- Percent-decoding (RFC 3986, "Percent-Encoding").
use Rattle.std.specs.Prelude.{ℕ, ◌+◌, ◌-◌, ◌*◌, ◌==◌, ◌&&◌, nat_le, nat_lt, if◌then◌else◌, List, [], ◌∷◌, Option, Some, None}

abbrev pub digit : ℕ → Option ℕ
digit b =
    if nat_le 48 b && nat_le b 57 then Some (b - 48)
    else if nat_le 97 b && nat_le b 102 then Some (b - 97 + 10)
    else if nat_le 65 b && nat_le b 70 then Some (b - 65 + 10)
    else None

abbrev pub digits_by : Option ℕ → Option ℕ → Option ℕ
digits_by (Some high) (Some low) = if high == 0 && low == 0 then None else Some (16 * high + low)
digits_by _ _ = None

-- the byte that two digits encode; none for NUL
abbrev pub digits : ℕ → ℕ → Option ℕ
digits high low = digits_by (digit high) (digit low)

-- the byte that a text begins with in percent-encoding
abbrev pub escaped : List ℕ → Option ℕ
escaped (percent ∷ high ∷ low ∷ rest) = if percent == 37 then digits high low else None
escaped _ = None

-- the decoded text, after `skipped` bytes
abbrev pub decoded : ℕ → List ℕ → List ℕ
decoded skipped [] = []
decoded skipped (b ∷ bytes) =
    if nat_lt 0 skipped then decoded (skipped - 1) bytes
    else (elim (escaped (b ∷ bytes)) [ Some byte ↦ byte ∷ decoded 2 bytes | None ↦ b ∷ decoded 0 bytes ])
