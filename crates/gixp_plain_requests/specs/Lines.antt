-- The packet lines with a payload at the front of a list of bytes (gitprotocol-common, "pkt-line Format").
use Rattle.std.specs.Prelude.{ℕ, ◌+◌, ◌≤◌, List, [], ◌∷◌, length, drop, All}
use Rattle.std.specs.Borrow.{Bor}
use Rattle.std.specs.Io.BufRead.{strip_last}
use Rattle.gixp_packetline.specs.Frames.{Frame, payload, special, frames_of}

-- the payloads before the first packet without one
abbrev pub leading : List Frame → List (List ℕ)
leading [] = []
leading (payload line ∷ fs) = line ∷ leading fs
leading (special kind ∷ fs) = []

abbrev pub lines_of : List ℕ → List (List ℕ)
lines_of bytes = leading (frames_of bytes).list

-- the number of bytes of these packet lines, their digits included
abbrev pub size_of_lines : List (List ℕ) → ℕ
size_of_lines [] = 0
size_of_lines (line ∷ lines) = 4 + length line + size_of_lines lines

-- the bytes after them
abbrev pub after_lines : List ℕ → List ℕ
after_lines bytes = drop (size_of_lines (lines_of bytes)) bytes

-- each line fits into a packet line
abbrev pub FitLines : List (Bor (List ℕ)) → Type 0
FitLines lines = All (λ line. length line.now ≤ 65516) lines

-- the LF at the end of a line, if it has one
abbrev pub line_end : List ℕ → List ℕ
line_end line = drop (length (strip_last 10 line)) line
