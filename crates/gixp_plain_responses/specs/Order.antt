-- The bytes that a reader holds.
use Rattle.std.specs.Prelude.{◌≡◌, ℕ, Bool, true, false, ◌-◌, ◌<◌, ◌≤◌, nat_lt, if◌then◌else◌}
use Rattle.gixp_plain_responses.specs.declared.place.Wanted.{Wanted}
use Rattle.gixp_plain_responses.specs.declared.place.Wanted.TheVariants.{Digits, Line, Content}
use Rattle.gixp_plain_responses.specs.declared.place.Next.{Next}
use Rattle.gixp_plain_responses.specs.declared.place.Next.TheVariants.{Hold, Payload, Pack, Rest, Nothing}

abbrev pub is_holding : Next → Bool
is_holding (Hold wanted) = true
is_holding (Payload n) = false
is_holding Pack = false
is_holding Rest = false
is_holding Nothing = false

abbrev pub is_content : Next → Bool
is_content (Hold Digits) = false
is_content (Hold (Line size)) = false
is_content (Hold Content) = true
is_content (Payload n) = false
is_content Pack = false
is_content Rest = false
is_content Nothing = false

-- how many bytes are wanted
abbrev pub size_wanted : Wanted → ℕ
size_wanted Digits = 4
size_wanted (Line size) = size
size_wanted Content = 65515

-- where they begin: content follows the digits and the band of its packet
abbrev pub offset_of : Wanted → ℕ
offset_of Digits = 0
offset_of (Line size) = 0
offset_of Content = 5

-- where they end
abbrev pub limit_of : Wanted → ℕ
limit_of Digits = 4
limit_of (Line size) = size
limit_of Content = 65520

-- the same of what comes next
abbrev pub first_of : Next → ℕ
first_of (Hold wanted) = offset_of wanted
first_of (Payload n) = 0
first_of Pack = 0
first_of Rest = 0
first_of Nothing = 0

abbrev pub last_of : Next → ℕ
last_of (Hold wanted) = limit_of wanted
last_of (Payload n) = 0
last_of Pack = 0
last_of Rest = 0
last_of Nothing = 0

-- what is held is not yet whole
abbrev pub IsRoomInOrder : (room start end : ℕ) → Next → Type 0
IsRoomInOrder room start end next =
    (room ≡ 65524) × (start ≤ end) × (end ≤ 65524)
    × (is_holding next ≡ true → (start ≡ first_of next) × (end < last_of next) × (4 ≤ last_of next) × (last_of next ≤ 65520))

-- an upper bound of the steps before a reader passes on a byte or finds the end; each step reads at least one byte
abbrev pub steps_left : (start end : ℕ) → Next → ℕ
steps_left start end (Hold Digits) = 80000 - end
steps_left start end (Hold (Line size)) = 70000 - end
steps_left start end (Hold Content) = 70000 - end
steps_left start end (Payload n) = if nat_lt start end then 0 else 90000
steps_left start end Pack = if nat_lt start end then 0 else 75000
steps_left start end Rest = 0
steps_left start end Nothing = 0
