-- The bytes that are passed on (gitprotocol-common, "pkt-line Format"; gitprotocol-pack, "Packfile Negotiation", "Packfile
-- Data").
use Rattle.std.specs.Prelude.{◌≡◌, ℕ, zero, suc, ◌+◌, ◌-◌, ◌<◌, ◌≤◌, ◌==◌, nat_lt, ◌||◌, Bool, true, false, if◌then◌else◌, List, [], ◌∷◌, ◌++◌, length, take, drop, slice_range, codes, Option, Some, None, Result, Ok, Err}
use Rattle.std.specs.Option.{option_map}
use Rattle.std.specs.Str.{bytes_eq}
use Rattle.std.specs.Io.KnownBytes.{Keeps, Consumes, IsAtEnd}
use Rattle.gixp_packetline.specs.Frames.{size_of}
use Rattle.gixp_plain_responses.specs.declared.place.Wanted.{Wanted}
use Rattle.gixp_plain_responses.specs.declared.place.Wanted.TheVariants.{Digits, Line, Content}
use Rattle.gixp_plain_responses.specs.declared.place.Next.{Next}
use Rattle.gixp_plain_responses.specs.declared.place.Next.TheVariants.{Hold, Payload, Pack, Rest, Nothing}
use Rattle.gixp_plain_responses.specs.declared.place.PlainResponses.{PlainResponses}
use Rattle.gixp_plain_responses.specs.Acknowledgement.{is_continue, common_text}
use Rattle.gixp_plain_responses.specs.Band.{band_text, last_text}
use Rattle.gixp_plain_responses.specs.Order.{size_wanted, steps_left}

-- a pack in place of a packet line
abbrev pub begins_pack : List ℕ → Bool
begins_pack digits = bytes_eq digits (codes "PACK")

-- the sizes of `ACK <id> continue`, without or with an LF
abbrev pub is_line_size : ℕ → Bool
is_line_size size = (size == 57) || (size == 58)

-- what comes after the digits of a packet line
abbrev pub next_by : Option ℕ → Next
next_by None = Rest
next_by (Some size) =
    if nat_lt size 3 then Payload 0
    else if nat_lt size 5 then Rest
    else if nat_lt 65520 size then Rest
    else if is_line_size size then Hold (Line size)
    else Payload (size - 4)

-- what comes after four bytes in place of digits
abbrev pub next_of : List ℕ → Next
next_of digits = if begins_pack digits then Hold Content else next_by (size_of digits)

-- what comes after all wanted bytes, and what of them is held then
abbrev pub next_after : Wanted → List ℕ → Next
next_after Digits held = next_of held
next_after (Line size) held = Payload 0
next_after Content held = Pack

abbrev pub held_after : Wanted → List ℕ → List ℕ
held_after Digits held = held
held_after (Line size) held = if is_continue (drop 4 held) then common_text (take 44 (drop 4 held)) else held
held_after Content held = band_text held

-- what is passed on of the bytes held at the end of the stream
abbrev pub end_text : Wanted → List ℕ → List ℕ
end_text Digits held = held
end_text (Line size) held = held
end_text Content held = last_text held

-- the bytes that are passed on, of held bytes and of the bytes after them
abbrev pub given : Next → (held : List ℕ) → List ℕ → List ℕ
given Nothing held bytes = held
given Rest held bytes = held ++ bytes
given (Payload n) held [] = held
given (Payload n) held (b ∷ bytes) = elim n [
  | zero ↦ held ++ given (Hold Digits) (b ∷ []) bytes
  | suc m ↦ held ++ b ∷ given (Payload m) [] bytes
]
given Pack held [] = held ++ last_text []
given Pack held (b ∷ bytes) = held ++ given (Hold Content) (b ∷ []) bytes
given (Hold wanted) held [] = end_text wanted held
given (Hold wanted) held (b ∷ bytes) =
    if nat_lt (length held + 1) (size_wanted wanted) then given (Hold wanted) (held ++ b ∷ []) bytes
    else given (next_after wanted (held ++ b ∷ [])) (held_after wanted (held ++ b ∷ [])) bytes

-- the bytes of a stream that are passed on
abbrev pub translated : List ℕ → List ℕ
translated bytes = given (Hold Digits) [] bytes

-- the bytes that are passed on after all wanted bytes
abbrev pub whole_from : Wanted → List ℕ → List ℕ → List ℕ
whole_from wanted held bytes = given (next_after wanted held) (held_after wanted held) bytes

-- the bytes that are passed on after these of the wanted bytes
abbrev pub translated_from : Wanted → List ℕ → List ℕ → List ℕ
translated_from wanted held bytes =
    if nat_lt (length held) (size_wanted wanted) then given (Hold wanted) held bytes else whole_from wanted held bytes

-- the bytes that a reader has still to pass on
abbrev pub to_come : {R : Type 0} → (R → Option (List ℕ)) → PlainResponses R → Option (List ℕ)
to_come remaining p = option_map (given p.next (slice_range p.room.items p.start p.end)) (remaining p.reader)

-- an upper bound of the steps before the reader passes on a byte or finds the end
abbrev pub steps_of : {R : Type 0} → PlainResponses R → ℕ
steps_of p = steps_left p.start p.end p.next

-- a read into this space: no more bytes than fit, and none only at the end
abbrev pub ReadsRoom : {E : Type 0} → Option (List ℕ) → Option (List ℕ) → (end limit : ℕ) → List ℕ → Result ℕ E → Type 0
ReadsRoom old new end limit room (Ok n) = (end + n ≤ limit) × Consumes old new (take n (drop end room)) × (n ≡ 0 → IsAtEnd new)
ReadsRoom old new end limit room (Err e) = Keeps old new

-- a call that passes on no byte, and returns whether it found the end; if not, the reader went a step further
abbrev pub EndsWanted : Option (List ℕ) → Option (List ℕ) → (steps left : ℕ) → Bool → Type 0
EndsWanted old new steps left true = Keeps old new × IsAtEnd new
EndsWanted old new steps left false = Keeps old new × (left < steps)

abbrev pub ReadsWanted : {E : Type 0} → Option (List ℕ) → Option (List ℕ) → (steps left : ℕ) → Result Bool E → Type 0
ReadsWanted old new steps left (Ok is_end) = EndsWanted old new steps left is_end
ReadsWanted old new steps left (Err e) = Keeps old new

-- a call that passes on some bytes, or goes a step further
abbrev pub TranslatesOrSteps : {E : Type 0} → Option (List ℕ) → Option (List ℕ) → (steps left : ℕ) → List ℕ → Result (Option ℕ) E → Type 0
TranslatesOrSteps old new steps left buf (Ok (Some n)) = (n ≤ length buf) × Consumes old new (take n buf) × (n ≡ 0 → IsAtEnd new)
TranslatesOrSteps old new steps left buf (Ok None) = Keeps old new × (left < steps)
TranslatesOrSteps old new steps left buf (Err e) = Keeps old new
