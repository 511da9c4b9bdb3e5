-- The digits that a reader holds.
use Rattle.std.specs.Prelude.{◌≡◌, ℕ, ◌-◌, ◌<◌, ◌≤◌, Bool, true, false, nat_lt, if◌then◌else◌}
use Rattle.gixp_response_end.specs.declared.place.Next.{Next}
use Rattle.gixp_response_end.specs.declared.place.Next.TheVariants.{Line, AnswerEnd, Payload, Rest, Nothing}

-- whether digits come next: those of a packet line, or of the response-end packet of a response
abbrev pub needs_digits : Next → Bool
needs_digits Line = true
needs_digits AnswerEnd = true
needs_digits (Payload n) = false
needs_digits Rest = false
needs_digits Nothing = false

-- at most four digits; if more digits come next, fewer than four are held, from the first on
abbrev pub IsInOrder : (start end : ℕ) → Next → Type 0
IsInOrder start end next = (start ≤ end) × (end ≤ 4) × (needs_digits next ≡ true → (start ≡ 0) × (end < 4))

-- an upper bound of the steps before a reader passes on a byte or finds the end: each takes at least one digit, and the
-- four digits of a response-end packet may follow the flush packet of a response
abbrev pub steps_left : (start end : ℕ) → Next → ℕ
steps_left start end Line = 10 - end
steps_left start end AnswerEnd = 5 - end
steps_left start end (Payload n) = if nat_lt start end then 0 else 11
steps_left start end Rest = 0
steps_left start end Nothing = 0
