-- Capability lists of a server: names, some of which have a value (gitprotocol-pack, "Reference Discovery";
-- gitprotocol-v2, "Capability Advertisement"; gitprotocol-capabilities).
use Rattle.std.specs.Prelude.{◌≡◌, ℕ, ◌+◌, ◌==◌, Bool, true, false, List, [], ◌∷◌, drop, map, filter, find, position, nat_eq, Option, Some, None, Result, Ok, Err}
use Rattle.std.specs.List.{list_any, slice_split}
use Rattle.std.specs.Cmp.Lexicographic.{pointwise}
use Rattle.std.specs.Io.BufRead.{strip_last}
use Rattle.gixp_capabilities.specs.declared.client.Error.{Error}
use Rattle.gixp_capabilities.specs.declared.client.Error.TheVariants.{MissingDelimitingNullByte, Memory}
use Rattle.gixp_capabilities.specs.Cut.{cut}

pub record CapabilityValue : Type 0 where
  pub name : List ℕ
  pub value : Option (List ℕ)

-- a text is a name, and a value after its first `=`
unfoldable pub capability_of : List ℕ → CapabilityValue
capability_of text = let parts = cut 61 text in record { name = parts.0; value = parts.1 }

-- the pieces of a text between blanks, empty ones included
abbrev pub words_of : List ℕ → List (List ℕ)
words_of text = slice_split (λ b. b == 32) text

abbrev pub has_bytes : List ℕ → Bool
has_bytes [] = false
has_bytes (x ∷ xs) = true

-- the capabilities of a text: its nonempty pieces between blanks
unfoldable pub capabilities_of_words : List ℕ → List CapabilityValue
capabilities_of_words text = map capability_of (filter has_bytes (words_of text))

-- the capabilities after a NUL at this offset, and the offset
abbrev pub capabilities_after : List ℕ → Option ℕ → Option (List CapabilityValue × ℕ)
capabilities_after line None = None
capabilities_after line (Some place) = Some (capabilities_of_words (strip_last 10 (drop (place + 1) line)), place)

-- the capabilities after the first NUL of the first ref line, and the offset of the NUL; none where the line has no NUL
abbrev pub capabilities_of_line : List ℕ → Option (List CapabilityValue × ℕ)
capabilities_of_line line = capabilities_after line (position (λ b. b == 0) line)

-- the capability of a line, without one ending LF
abbrev pub capability_of_line : List ℕ → CapabilityValue
capability_of_line line = capability_of (strip_last 10 line)

abbrev pub capabilities_of_lines : List (List ℕ) → List CapabilityValue
capabilities_of_lines lines = map capability_of_line lines

-- the capabilities of the first ref line; an error where it has no NUL or an allocation fails
abbrev pub IsOfLine : Option (List CapabilityValue × ℕ) → Result (List CapabilityValue × ℕ) Error → Type 0
IsOfLine (Some found) (Ok r) = r ≡ found
IsOfLine (Some found) (Err e) = e ≡ Memory
IsOfLine None (Ok r) = ⊥
IsOfLine None (Err e) = e ≡ MissingDelimitingNullByte

-- whether two texts are equal
abbrev pub is_text : List ℕ → List ℕ → Bool
is_text = pointwise nat_eq

abbrev pub is_named : List ℕ → CapabilityValue → Bool
is_named name c = is_text c.name name

abbrev pub first_named : List ℕ → List CapabilityValue → Option CapabilityValue
first_named name cs = find (is_named name) cs

-- whether a capability has this name
abbrev pub has_named : List ℕ → List CapabilityValue → Bool
has_named name cs = list_any (is_named name) cs

-- the words of a value, if there is one
abbrev pub values_of : Option (List ℕ) → Option (List (List ℕ))
values_of None = None
values_of (Some text) = Some (words_of text)

-- whether a value has this word; none without a value
abbrev pub supports_word : List ℕ → Option (List ℕ) → Option Bool
supports_word word None = None
supports_word word (Some text) = Some (list_any (λ w. is_text w word) (words_of text))
