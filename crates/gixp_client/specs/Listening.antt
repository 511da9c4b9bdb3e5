-- The messages of bands 2 and 3 that a listener keeps and shows (gitprotocol-pack, "Packfile Data"), and the white space that the
-- parser of refs loses (git-check-ref-format).
use Rattle.std.specs.Prelude.{◌≡◌, ◌⊎◌, MatchBool, ◌+◌, ◌-◌, ◌==◌, ◌||◌, ℕ, Bool, true, false, if◌then◌else◌, List, [], ◌∷◌, ◌++◌, length, take, map, codes, Option, Some, None, unwrap_or}
use Rattle.std.specs.List.{slice_get}
use Rattle.std.specs.Str.{IsAscii, IsNotAscii}
use Rattle.std.specs.Io.KnownBytes.{Appends}
use Rattle.bstr.specs.Owned.{bstring_bytes}
use Rattle.gixp_utils.specs.Printable.{visible}
use Rattle.gixp_refs.specs.RefLine.{trimmed_space}
use Rattle.gixp_client.specs.declared.listen.ServerText.{ServerText}
use Rattle.gixp_client.specs.declared.listen.Kept.{Kept}

-- ---- the message in a line

-- by its band: progress (2) or an error (3)
abbrev pub text_by : ℕ → List ℕ → Option (Bool × List ℕ)
text_by band text = if band == 2 then Some (false, text) else if band == 3 then Some (true, text) else None

-- whether the message is an error, and its text
abbrev pub text_in : List ℕ → Option (Bool × List ℕ)
text_in [] = None
text_in (band ∷ text) = text_by band text

-- ---- kept messages

-- the last byte, or NUL for an empty text
abbrev pub last_byte : List ℕ → ℕ
last_byte text = unwrap_or (slice_get text (length text - 1)) 0

-- NUL, LF or CR
abbrev pub is_end : ℕ → Bool
is_end b = b == 0 || b == 10 || b == 13

-- a text without one such byte at its end
abbrev pub without_end : List ℕ → List ℕ
without_end text = if is_end (last_byte text) then take (length text - 1) text else text

abbrev pub text_value : ServerText → Bool × List ℕ
text_value t = (t.is_error, bstring_bytes t.text)

abbrev pub kept_texts : Kept → List (Bool × List ℕ)
kept_texts k = map text_value k.texts.items

-- a text is appended, and takes its length and one more from the room
pub record KeepsText (is_error : Bool) (text : List ℕ) (old new : Kept) : Type 0 where
  pub texts : kept_texts new ≡ kept_texts old ++ (is_error, without_end text) ∷ []
  pub room : new.room + (length (without_end text) + 1) ≡ old.room
  pub cut : new.is_cut ≡ old.is_cut

-- the texts and the room are unchanged
pub record KeepsTexts (old new : Kept) : Type 0 where
  pub texts : new.texts.items ≡ old.texts.items
  pub room : new.room ≡ old.room

-- a text is missing, and `is_cut` records it
pub record LosesText (old new : Kept) : Type 0 where
  pub stays : KeepsTexts old new
  pub cut : new.is_cut ≡ true

-- a text is kept or missing; an error is recorded in both cases
abbrev pub ReceivesText : Bool → List ℕ → Kept → Kept → Type 0
ReceivesText is_error text old new =
    (KeepsText is_error text old new ⊎ LosesText old new) × (new.has_error ≡ (old.has_error || is_error))

-- a message is reported and kept, or recorded as missing; a line without one changes neither the listener nor the kept messages
abbrev pub ReceivesLine : {L : Type 0} → (L → Bool → List ℕ → L → Type 0) → Option (Bool × List ℕ) → L → Kept → L → Kept → Type 0
ReceivesLine receives None listener kept listener' kept' = (listener' ≡ listener) × (kept' ≡ kept)
ReceivesLine receives (Some text) listener kept listener' kept' = receives listener text.0 text.1 listener' × ReceivesText text.0 text.1 kept kept'

-- ---- names of refs

-- whether white space is lost, before and after a line: it stays lost; else the line loses it exactly if the parser of refs trims a
-- character outside ASCII from its end
abbrev pub RecordsLoss : List ℕ → Bool → Bool → Type 0
RecordsLoss line true lost' = lost' ≡ true
RecordsLoss line false lost' = MatchBool lost' (IsNotAscii (trimmed_space line)) (IsAscii (trimmed_space line))

-- ---- shown messages

-- blanks after a line, which overwrite the rest of a longer line
abbrev pub trailing_blanks : List ℕ → List ℕ
trailing_blanks [] = []
trailing_blanks (b ∷ line) = codes "        "

-- a server's line as it is shown, with its terminator
abbrev pub remote_line : List ℕ → ℕ → List ℕ
remote_line line end = codes "remote: " ++ line ++ trailing_blanks line ++ end ∷ []

-- the written output, and the unfinished line after it
pub record ShownLines : Type 0 where
  pub written : List ℕ
  pub line : List ℕ

-- two outputs in sequence
abbrev pub then_shown : ShownLines → (List ℕ → ShownLines) → ShownLines
then_shown s next = record { written = s.written ++ (next s.line).written; line = (next s.line).line }

abbrev pub unshown : List ℕ → ShownLines
unshown line = record { written = []; line = line }

-- LF and CR write the line; any other byte is appended to it
abbrev pub after_byte : List ℕ → ℕ → ShownLines
after_byte line b =
    if b == 10 || b == 13 then record { written = remote_line line b; line = [] }
    else record { written = []; line = line ++ visible (last_byte line) b ∷ [] }

-- the output of a text after this unfinished line
abbrev pub after_text : List ℕ → List ℕ → ShownLines
after_text line [] = unshown line
after_text line (b ∷ text) = then_shown (after_byte line b) (λ l. after_text l text)

-- an unfinished line is written
abbrev pub ended : List ℕ → ShownLines
ended [] = unshown []
ended (b ∷ line) = record { written = remote_line (b ∷ line) 10; line = [] }

-- progress continues the unfinished line; an error is on lines of its own
abbrev pub shown_of : Bool → List ℕ → List ℕ → ShownLines
shown_of false line text = after_text line text
shown_of true line text = then_shown (ended line) (λ l. then_shown (after_text l text) ended)

-- unless something is missing, this output was appended to the writer's contents
abbrev pub ShowsLines : Bool → Option (List ℕ) → Bool → Option (List ℕ) → List ℕ → ShownLines → Type 0
ShowsLines was_cut held is_cut holds line shown = is_cut ≡ false → (was_cut ≡ false) × Appends held holds shown.written
    × (line ≡ shown.line)
