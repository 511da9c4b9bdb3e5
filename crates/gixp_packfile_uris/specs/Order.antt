-- The bytes that a reader holds.
use Rattle.std.specs.Prelude.{◌≡◌, ℕ, Bool, true, false, ◌+◌, ◌-◌, ◌*◌, ◌<◌, ◌≤◌, nat_lt, if◌then◌else◌}
use Rattle.gixp_packfile_uris.specs.declared.place.LinePlace.{LinePlace}
use Rattle.gixp_packfile_uris.specs.declared.place.LinePlace.TheVariants.{SectionStart, Section, Uris, Over}
use Rattle.gixp_packfile_uris.specs.declared.place.Next.{Next}
use Rattle.gixp_packfile_uris.specs.declared.place.Next.TheVariants.{Hold, Payload, Rest, Refused}

abbrev pub is_holding : Next → Bool
is_holding (Hold size) = true
is_holding (Payload n) = false
is_holding Rest = false
is_holding Refused = false

-- how many bytes of a line are to be held
abbrev pub size_held : Next → ℕ
size_held (Hold size) = size
size_held (Payload n) = 0
size_held Rest = 0
size_held Refused = 0

-- how many lines of the section were read
abbrev pub count_of : LinePlace → ℕ
count_of (Uris count) = count
count_of SectionStart = 0
count_of Section = 0
count_of Over = 0

-- a section has at most 1,000 lines; a line that is held is not yet whole
abbrev pub IsHeldInOrder : (room start end : ℕ) → LinePlace → Next → Type 0
IsHeldInOrder room start end place next =
    (room ≡ 65520) × (start ≤ end) × (end ≤ 65520) × (count_of place ≤ 1000)
    × (is_holding next ≡ true → (start ≡ 0) × (end < size_held next) × (4 ≤ size_held next) × (size_held next ≤ 65520))

-- an upper bound of the lines before a reader passes on a byte
abbrev pub lines_left : LinePlace → ℕ
lines_left SectionStart = 1002
lines_left (Uris count) = 1001 - count
lines_left Section = 0
lines_left Over = 0

-- an upper bound of the steps before a reader passes on a byte or finds the end; each step reads at least one byte
abbrev pub steps_left : LinePlace → (start end : ℕ) → Next → ℕ
steps_left place start end (Hold size) = lines_left place * 65521 + (65520 - end)
steps_left place start end (Payload n) = if nat_lt start end then 0 else 1003 * 65521
steps_left place start end Rest = 0
steps_left place start end Refused = 0
