-- The packet lines of an advertisement and of whole responses (gitprotocol-v2, "Packet-Line Framing";
-- gitremote-helpers, "stateless-connect"), as bytes.
use Rattle.std.specs.Prelude.{◌≡◌, ℕ, zero, suc, ◌-◌, ◌<◌, ◌≤◌, ◌==◌, nat_lt, Bool, true, false, if◌then◌else◌, List, [], ◌∷◌, ◌++◌, length, take, slice_range, codes, Option, Some, None, Result, Ok, Err}
use Rattle.std.specs.Option.{option_map}
use Rattle.std.specs.Io.KnownBytes.{Keeps, Consumes, IsAtEnd}
use Rattle.gixp_packetline.specs.Frames.{size_of}
use Rattle.gixp_response_end.specs.declared.place.Next.{Next}
use Rattle.gixp_response_end.specs.declared.place.Next.TheVariants.{Line, AnswerEnd, Payload, Rest, Nothing}
use Rattle.gixp_response_end.specs.declared.place.Answers.{Answers}
use Rattle.gixp_response_end.specs.Order.{needs_digits, steps_left}

abbrev pub is_number : ℕ → Option ℕ → Bool
is_number n None = false
is_number n (Some size) = size == n

-- what follows the four digits of a packet line: nothing after a response-end packet; a response-end packet after the
-- flush packet of a response; otherwise a payload, or bytes that are not a packet line
abbrev pub next_of : (advertised : Bool) → Option ℕ → Next
next_of advertised None = Rest
next_of advertised (Some size) =
    if size == 2 then Nothing
    else if size == 0 then (if advertised then AnswerEnd else Payload 0)
    else Payload (size - 4)

-- how many of these digits are passed on before what follows: all or none
abbrev pub given_count : Next → ℕ
given_count Line = 0
given_count AnswerEnd = 0
given_count (Payload n) = 4
given_count Rest = 4
given_count Nothing = 0

-- the same for the digits that come next; only a response-end packet may follow the flush packet of a response, which is then passed on
abbrev pub next_after : (advertised : Bool) → Next → Option ℕ → Next
next_after advertised AnswerEnd size = if is_number 2 size then Payload 0 else Nothing
next_after advertised _ size = next_of advertised size

abbrev pub given_after : (advertised : Bool) → Next → Option ℕ → List ℕ → List ℕ
given_after advertised AnswerEnd size digits = if is_number 2 size then codes "0000" else []
given_after advertised _ size digits = take (given_count (next_of advertised size)) digits

-- the first flush packet ends the advertisement
abbrev pub advertised_after : (advertised : Bool) → Option ℕ → Bool
advertised_after advertised size = if is_number 0 size then true else advertised

-- the bytes that are passed on, of held digits and the bytes after them
abbrev pub given : (advertised : Bool) → Next → (held : List ℕ) → List ℕ → List ℕ
given advertised Nothing held bytes = held
given advertised Rest held bytes = held ++ bytes
given advertised (Payload n) held [] = held
given advertised (Payload n) held (b ∷ bytes) =
    elim n [ zero ↦ held ++ given advertised Line (b ∷ []) bytes | suc m ↦ held ++ b ∷ given advertised (Payload m) [] bytes ]
given advertised Line held [] = held
given advertised Line held (b ∷ bytes) =
    if nat_lt (length held) 3 then given advertised Line (held ++ b ∷ []) bytes
    else given_after advertised Line (size_of (held ++ b ∷ [])) (held ++ b ∷ [])
    ++ given (advertised_after advertised (size_of (held ++ b ∷ []))) (next_after advertised Line (size_of (held ++ b ∷ []))) [] bytes
given advertised AnswerEnd held [] = []
given advertised AnswerEnd held (b ∷ bytes) =
    if nat_lt (length held) 3 then given advertised AnswerEnd (held ++ b ∷ []) bytes
    else given_after advertised AnswerEnd (size_of (held ++ b ∷ [])) (held ++ b ∷ [])
    ++ given (advertised_after advertised (size_of (held ++ b ∷ []))) (next_after advertised AnswerEnd (size_of (held ++ b ∷ []))) [] bytes

-- the bytes of a stream that are passed on
abbrev pub passed_on : List ℕ → List ℕ
passed_on bytes = given false Line [] bytes

-- the bytes that are passed on after these digits, at most four
abbrev pub passed_from : (advertised : Bool) → Next → List ℕ → List ℕ → List ℕ
passed_from advertised next digits bytes =
    if nat_lt (length digits) 4 then given advertised next digits bytes
    else given (advertised_after advertised (size_of digits)) (next_after advertised next (size_of digits))
    (given_after advertised next (size_of digits) digits) bytes

-- the bytes that a reader has still to pass on
abbrev pub to_come : {R : Type 0} → (R → Option (List ℕ)) → Answers R → Option (List ℕ)
to_come remaining a = option_map (given a.advertised a.next (slice_range a.digits a.start a.end)) (remaining a.reader)

-- an upper bound of the steps before the reader passes on a byte or finds the end
abbrev pub steps_of : {R : Type 0} → Answers R → ℕ
steps_of a = steps_left a.start a.end a.next

-- a call that passes on no byte, and returns whether it found the end; if not, the reader went a step further
abbrev pub ReadsDigits : {E : Type 0} → Option (List ℕ) → Option (List ℕ) → (old new : ℕ) → Result Bool E → Type 0
ReadsDigits old new steps left (Ok true) = Keeps old new × IsAtEnd new
ReadsDigits old new steps left (Ok false) = Keeps old new × (left < steps)
ReadsDigits old new steps left (Err e) = Keeps old new

-- a call that passes on some bytes, or goes a step further
abbrev pub GivesOrSteps : {E : Type 0} → Option (List ℕ) → Option (List ℕ) → (old new : ℕ) → List ℕ → Result (Option ℕ) E → Type 0
GivesOrSteps old new steps left buf (Ok (Some n)) = (n ≤ length buf) × Consumes old new (take n buf) × (n ≡ 0 → IsAtEnd new)
GivesOrSteps old new steps left buf (Ok None) = Keeps old new × (left < steps)
GivesOrSteps old new steps left buf (Err e) = Keeps old new
