-- The bytes that are passed on, and the lines that the sink takes (gitprotocol-v2, "Packet-Line Framing", "fetch").
use Rattle.std.specs.Prelude.{◌≡◌, ℕ, zero, suc, ◌+◌, ◌-◌, ◌<◌, ◌≤◌, ◌==◌, nat_lt, Bool, true, false, if◌then◌else◌, List, [], ◌∷◌, ◌++◌, length, take, drop, slice_range, Option, Some, None, Result, Ok, Err}
use Rattle.std.specs.Option.{option_map}
use Rattle.std.specs.Io.KnownBytes.{Keeps, Consumes, IsAtEnd}
use Rattle.gixp_packetline.specs.Frames.{size_of}
use Rattle.gixp_packfile_uris.specs.declared.place.LinePlace.{LinePlace}
use Rattle.gixp_packfile_uris.specs.declared.place.LinePlace.TheVariants.{SectionStart, Section, Uris, Over}
use Rattle.gixp_packfile_uris.specs.declared.place.Fate.{Fate}
use Rattle.gixp_packfile_uris.specs.declared.place.Fate.TheVariants.{Pass, Take, Refuse}
use Rattle.gixp_packfile_uris.specs.declared.place.Next.{Next}
use Rattle.gixp_packfile_uris.specs.declared.place.Next.TheVariants.{Hold, Payload, Rest, Refused}
use Rattle.gixp_packfile_uris.specs.declared.place.After.{After}
use Rattle.gixp_packfile_uris.specs.declared.place.PackfileUris.{PackfileUris}
use Rattle.gixp_packfile_uris.specs.Line.{text_of, fate}
use Rattle.gixp_packfile_uris.specs.Order.{steps_left}
use Rattle.gixp_packfile_uris.specs.Sink.{all_lines}

abbrev pub in_uris : LinePlace → Bool
in_uris (Uris count) = true
in_uris SectionStart = false
in_uris Section = false
in_uris Over = false

-- where a section begins after a delimiter packet
abbrev pub after_delimiter : LinePlace → LinePlace
after_delimiter SectionStart = SectionStart
after_delimiter Section = SectionStart
after_delimiter (Uris count) = Over
after_delimiter Over = Over

abbrev pub passes : LinePlace → Next → ℕ → After
passes place next count = record { place = place; next = next; count = count }

-- a delimiter packet ends the section and isn't passed on; elsewhere it is passed on
abbrev pub delimiter_after : LinePlace → After
delimiter_after place = if in_uris place then passes Over (Hold 4) 0 else passes (after_delimiter place) (Payload 0) 4

-- a flush or response-end packet in the section is an error; elsewhere it is passed on
abbrev pub flush_after : LinePlace → After
flush_after place = if in_uris place then passes place Refused 0 else passes SectionStart (Payload 0) 4

-- a line of this size is held if it may belong to the section
abbrev pub line_after : LinePlace → ℕ → After
line_after SectionStart size = passes SectionStart (Hold size) 4
line_after (Uris count) size = passes (Uris count) (Hold size) 4
line_after Section size = passes Section (Payload (size - 4)) 4
line_after Over size = passes Over (Payload (size - 4)) 4

-- what comes after the four digits of a packet line
abbrev pub digits_after : LinePlace → Option ℕ → After
digits_after place None = passes place Rest 4
digits_after place (Some size) =
    if size == 1 then delimiter_after place
    else if nat_lt size 3 then flush_after place
    else if nat_lt size 5 then passes place Rest 4
    else if nat_lt 65520 size then passes place Rest 4
    else line_after place size

-- what comes after a whole line of this many bytes
abbrev pub fate_after : LinePlace → Fate → ℕ → After
fate_after place (Pass next) count = passes next (Payload 0) count
fate_after place (Take next) count = passes next (Hold 4) 0
fate_after place Refuse count = passes place Refused 0

abbrev pub held_after : LinePlace → ℕ → List ℕ → After
held_after place size held =
    if size == 4 then digits_after place (size_of held) else fate_after place (fate place (drop 4 held)) (length held)

-- the sink takes each line of the section, but not its header
abbrev pub takes_uri : LinePlace → Fate → Bool
takes_uri place (Take next) = in_uris place
takes_uri place (Pass next) = false
takes_uri place Refuse = false

abbrev pub lines_held : LinePlace → ℕ → List ℕ → List (List ℕ)
lines_held place size held =
    if size == 4 then [] else if takes_uri place (fate place (drop 4 held)) then text_of (drop 4 held) ∷ [] else []

-- the bytes that are passed on, the lines that the sink takes, and whether an invalid line follows
pub record Parts : Type 0 where
  pub passed : List ℕ
  pub lines : List (List ℕ)
  pub is_refused : Bool

-- bytes that are passed on up to the end of the reader
abbrev pub ending : List ℕ → Parts
ending bytes = record { passed = bytes; lines = []; is_refused = false }

abbrev pub following : List ℕ → List (List ℕ) → Parts → Parts
following front first p = record { passed = front ++ p.passed; lines = first ++ p.lines; is_refused = p.is_refused }

-- the parts of held bytes and of the bytes after them
abbrev pub parts : LinePlace → Next → (held : List ℕ) → List ℕ → Parts
parts place Refused held bytes = record { passed = held; lines = []; is_refused = true }
parts place Rest held bytes = ending (held ++ bytes)
parts place (Payload n) held [] = ending held
parts place (Payload n) held (b ∷ bytes) = elim n [
  | zero ↦ following held [] (parts place (Hold 4) (b ∷ []) bytes)
  | suc m ↦ following held [] (following (b ∷ []) [] (parts place (Payload m) [] bytes))
]
parts place (Hold size) held [] = ending held
parts place (Hold size) held (b ∷ bytes) =
    if nat_lt (length held + 1) size then parts place (Hold size) (held ++ b ∷ []) bytes
    else following [] (lines_held place size (held ++ b ∷ []))
    (parts (held_after place size (held ++ b ∷ [])).place (held_after place size (held ++ b ∷ [])).next
    (take (held_after place size (held ++ b ∷ [])).count (held ++ b ∷ [])) bytes)

-- the parts of a stream
abbrev pub parts_of : List ℕ → Parts
parts_of bytes = parts SectionStart (Hold 4) [] bytes

-- the parts of the bytes after these bytes of a line, of which at most `size` are held
abbrev pub parts_from : LinePlace → (size : ℕ) → List ℕ → List ℕ → Parts
parts_from place size held bytes =
    if nat_lt (length held) size then parts place (Hold size) held bytes
    else following [] (lines_held place size held)
    (parts (held_after place size held).place (held_after place size held).next (take (held_after place size held).count held) bytes)

-- the bytes that a reader has still to pass on
abbrev pub to_come : {R S : Type 0} → (R → Option (List ℕ)) → PackfileUris R S → Option (List ℕ)
to_come remaining p =
    option_map (λ bytes. (parts p.place p.next (slice_range p.room.items p.start p.end) bytes).passed) (remaining p.reader)

-- the lines that its sink took and will take
abbrev pub lines_of : {R S : Type 0} → (R → Option (List ℕ)) → (S → Option (List (List ℕ))) → PackfileUris R S → Option (List (List ℕ))
lines_of remaining lines p = all_lines (lines p.sink)
    (option_map (λ bytes. (parts p.place p.next (slice_range p.room.items p.start p.end) bytes).lines) (remaining p.reader))

-- whether it will find an invalid line
abbrev pub refused_of : {R S : Type 0} → (R → Option (List ℕ)) → PackfileUris R S → Option Bool
refused_of remaining p =
    option_map (λ bytes. (parts p.place p.next (slice_range p.room.items p.start p.end) bytes).is_refused) (remaining p.reader)

-- the bytes to pass on after these bytes of a line
abbrev pub passed_from : LinePlace → (size : ℕ) → List ℕ → Option (List ℕ) → Option (List ℕ)
passed_from place size held bytes = option_map (λ bs. (parts_from place size held bs).passed) bytes

abbrev pub lines_from : Option (List (List ℕ)) → LinePlace → (size : ℕ) → List ℕ → Option (List ℕ) → Option (List (List ℕ))
lines_from taken place size held bytes = all_lines taken (option_map (λ bs. (parts_from place size held bs).lines) bytes)

abbrev pub refused_from : LinePlace → (size : ℕ) → List ℕ → Option (List ℕ) → Option Bool
refused_from place size held bytes = option_map (λ bs. (parts_from place size held bs).is_refused) bytes

-- an upper bound of the steps before the reader passes on a byte or finds the end
abbrev pub steps_of : {R S : Type 0} → PackfileUris R S → ℕ
steps_of p = steps_left p.place p.start p.end p.next

-- a read into this space: no more bytes than fit, and none only at the end
abbrev pub ReadsInto : {E : Type 0} → Option (List ℕ) → Option (List ℕ) → (end size : ℕ) → List ℕ → Result ℕ E → Type 0
ReadsInto old new end size room (Ok n) = (end + n ≤ size) × Consumes old new (take n (drop end room)) × (n ≡ 0 → IsAtEnd new)
ReadsInto old new end size room (Err e) = Keeps old new

-- a call that passes on no byte, and returns whether it found the end; if not, the reader went a step further
abbrev pub ReadsHeld : {E : Type 0} → Option (List ℕ) → Option (List ℕ) → (steps left : ℕ) → Result Bool E → Type 0
ReadsHeld old new steps left (Ok true) = Keeps old new × IsAtEnd new
ReadsHeld old new steps left (Ok false) = Keeps old new × (left < steps)
ReadsHeld old new steps left (Err e) = Keeps old new

-- a call that passes on some bytes, or goes a step further
abbrev pub PassesOrSteps : {E : Type 0} → Option (List ℕ) → Option (List ℕ) → (steps left : ℕ) → List ℕ → Result (Option ℕ) E → Type 0
PassesOrSteps old new steps left buf (Ok (Some n)) = (n ≤ length buf) × Consumes old new (take n buf) × (n ≡ 0 → IsAtEnd new)
PassesOrSteps old new steps left buf (Ok None) = Keeps old new × (left < steps)
PassesOrSteps old new steps left buf (Err e) = Keeps old new
