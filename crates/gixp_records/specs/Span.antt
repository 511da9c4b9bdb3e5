-- A text by its offset and length in some bytes.
use Rattle.std.specs.Prelude.{ℕ, ◌+◌, ◌≤◌, List, length, take, drop}
use Rattle.gixp_records.specs.declared.span.Span.{Span}

abbrev pub text_at : List ℕ → Span → List ℕ
text_at bytes s = take s.len (drop s.at bytes)

-- the whole span is within the bytes
abbrev pub IsWithin : List ℕ → Span → Type 0
IsWithin bytes s = s.at + s.len ≤ length bytes
