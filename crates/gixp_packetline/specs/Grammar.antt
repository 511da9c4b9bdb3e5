-- The packet lines of a list of bytes, as a grammar: which texts are packet lines, and what may follow them.
use Rattle.std.specs.Prelude.{◌≡◌, ℕ, ◌+◌, ◌<◌, ◌≤◌, ◌⊎◌, List, [], ◌∷◌, ◌++◌, length, take, Some, None}
use Rattle.gixp_packetline.specs.declared.packet.PacketError.{PacketError}
use Rattle.gixp_packetline.specs.declared.packet.PacketError.TheVariants.{HexDecode, DataLengthLimitExceeded, DataIsEmpty, InvalidLineLength}
use Rattle.gixp_packetline.specs.declared.protocol.MessageKind.TheVariants.{Flush, Delimiter, ResponseEnd, Text}
use Rattle.gixp_packetline.specs.Frames.{size_of, Frame, payload, special, End, ended, bad}

-- the four digits make this number
abbrev pub Counts : List ℕ → ℕ → Type 0
Counts digits n = (length digits ≡ 4) × (size_of digits ≡ Some n)

-- the text of a packet line: four digits that count all its bytes, and its payload; or the digits of 0, 1 or 2 alone
abbrev pub IsFrame : List ℕ → Frame → Type 0
IsFrame text (payload p) = (digits : List ℕ) × Counts digits (4 + length p) × (text ≡ digits ++ p) × (0 < length p) × (length p ≤ 65516)
IsFrame text (special Flush) = Counts text 0
IsFrame text (special Delimiter) = Counts text 1
IsFrame text (special ResponseEnd) = Counts text 2
IsFrame text (special Text) = ⊥

-- four bytes that begin no packet line, and why
abbrev pub IsRefused : List ℕ → PacketError → Type 0
IsRefused digits HexDecode = (length digits ≡ 4) × (size_of digits ≡ None)
IsRefused digits InvalidLineLength = Counts digits 3
IsRefused digits DataIsEmpty = Counts digits 4
IsRefused digits DataLengthLimitExceeded = (n : ℕ) × Counts digits n × (65520 < n)

-- the bytes after the last whole packet line: four bytes that begin none, or part of one
abbrev pub IsEnd : List ℕ → End → Type 0
IsEnd rest (bad e) = (digits more : List ℕ) × (rest ≡ digits ++ more) × IsRefused digits e
IsEnd rest ended = (length rest < 4) ⊎ ((n : ℕ) × Counts (take 4 rest) n × (4 < n) × (n ≤ 65520) × (length rest < n))

-- the bytes are the texts of these packet lines, followed by this end
abbrev pub AreFrames : List ℕ → List Frame → End → Type 0
AreFrames bytes [] end = IsEnd bytes end
AreFrames bytes (f ∷ fs) end = (text rest : List ℕ) × (bytes ≡ text ++ rest) × IsFrame text f × AreFrames rest fs end
