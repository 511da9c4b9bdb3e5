-- The bytes that a reader holds after a line, and a bound of its steps.
use Rattle.std.proofs.Common.{◌≡◌, ℕ, zero, suc, ◌+◌, ◌-◌, ◌*◌, ◌<◌, ◌≤◌, ◌==◌, nat_lt, Bool, true, false, ◌&&◌, if◌then◌else◌, List, [], ◌∷◌, length, drop, Option, Some, None, refl, arith, rules, subst, sym}
use Rattle.std.specs.Prelude.{⊤}
use Rattle.gixp_packfile_uris.specs.declared.place.LinePlace.{LinePlace}
use Rattle.gixp_packfile_uris.specs.declared.place.LinePlace.TheVariants.{SectionStart, Section, Uris, Over}
use Rattle.gixp_packfile_uris.specs.declared.place.Fate.{Fate}
use Rattle.gixp_packfile_uris.specs.declared.place.Fate.TheVariants.{Pass, Take, Refuse}
use Rattle.gixp_packfile_uris.specs.declared.place.Next.{Next}
use Rattle.gixp_packfile_uris.specs.declared.place.Next.TheVariants.{Hold, Payload, Rest, Refused}
use Rattle.gixp_packfile_uris.specs.declared.place.After.{After}
use Rattle.gixp_packfile_uris.specs.Line.{is_message, is_header, is_uri_line, text_of, start_fate, uri_fate, fate_at, fate}
use Rattle.gixp_packfile_uris.specs.Order.{is_holding, size_held, count_of, lines_left, steps_left}
use Rattle.gixp_packfile_uris.specs.Parts.{passes, delimiter_after, flush_after, line_after, digits_after, fate_after}

-- at most this many bytes are held
abbrev pub IsAfter : ℕ → After → Type 0
IsAfter most a = (a.count ≤ most) × (count_of a.place ≤ 1000)
    × (is_holding a.next ≡ true → (a.count < size_held a.next) × (4 ≤ size_held a.next) × (size_held a.next ≤ 65520))

delimiter_is : (place : LinePlace) → count_of place ≤ 1000 → IsAfter 4 (delimiter_after place)
delimiter_is SectionStart h = (omega arith, omega arith, λ e. cc)
delimiter_is Section h = (omega arith, omega arith, λ e. cc)
delimiter_is (Uris n) h = (omega arith, omega arith, λ e. (omega arith, omega arith, omega arith))
delimiter_is Over h = (omega arith, omega arith, λ e. cc)

flush_is : (place : LinePlace) → count_of place ≤ 1000 → IsAfter 4 (flush_after place)
flush_is SectionStart h = (omega arith, omega arith, λ e. cc)
flush_is Section h = (omega arith, omega arith, λ e. cc)
flush_is (Uris n) h = (omega arith, h, λ e. cc)
flush_is Over h = (omega arith, omega arith, λ e. cc)

line_is : (place : LinePlace) (size : ℕ) → 4 < size → size ≤ 65520 → count_of place ≤ 1000 → IsAfter 4 (line_after place size)
line_is SectionStart size some fits h = (omega arith, omega arith, λ e. (some, omega arith, fits))
line_is Section size some fits h = (omega arith, omega arith, λ e. cc)
line_is (Uris n) size some fits h = (omega arith, h, λ e. (some, omega arith, fits))
line_is Over size some fits h = (omega arith, omega arith, λ e. cc)

by_tests : (place : LinePlace) (size : ℕ) (one special small big : Bool) → (small ≡ false → 4 < size) → (big ≡ false → size ≤ 65520)
    → count_of place ≤ 1000
    → IsAfter 4 (if one then delimiter_after place
    else if special then flush_after place
    else if small then passes place Rest 4
    else if big then passes place Rest 4
    else line_after place size)
by_tests place size true special small big s b h = delimiter_is place h
by_tests place size false true small big s b h = flush_is place h
by_tests place size false false true big s b h = (omega arith, h, λ e. cc)
by_tests place size false false false true s b h = (omega arith, h, λ e. cc)
by_tests place size false false false false s b h = line_is place size (s refl) (b refl) h

not_small : (size : ℕ) → nat_lt size 5 ≡ false → 4 < size
not_small size e = grind (arith, e)

not_big : (size : ℕ) → nat_lt 65520 size ≡ false → size ≤ 65520
not_big size e = grind (arith, e)

pub digits_are : (place : LinePlace) (o : Option ℕ) → count_of place ≤ 1000 → IsAfter 4 (digits_after place o)
digits_are place None h = (omega arith, h, λ e. cc)
digits_are place (Some size) h =
    by_tests place size (size == 1) (nat_lt size 3) (nat_lt size 5) (nat_lt 65520 size) (not_small size) (not_big size) h

-- the count of lines stays at most 1,000
abbrev IsFate : LinePlace → Fate → Type 0
IsFate place (Pass next) = count_of next ≤ 1000
IsFate place (Take next) = (count_of next ≤ 1000) × (lines_left next < lines_left place)
IsFate place Refuse = count_of place ≤ 1000

start_is : (b : Bool) → IsFate SectionStart (if b then Take (Uris 0) else Pass Section)
start_is true = (omega arith, omega arith)
start_is false = omega arith

uri_is : (n : ℕ) (few is : Bool) → (few ≡ true → n < 1000) → n ≤ 1000 → IsFate (Uris n) (if few && is then Take (Uris (n + 1)) else Refuse)
uri_is n true true f h = let l : n < 1000 = f refl in (omega arith, omega arith)
uri_is n true false f h = h
uri_is n false is f h = h

few_lines : (n : ℕ) → nat_lt n 1000 ≡ true → n < 1000
few_lines n e = grind (arith, e)

at_is : (place : LinePlace) (line : List ℕ) → count_of place ≤ 1000 → IsFate place (fate_at place line)
at_is SectionStart line h = start_is (is_header line)
at_is (Uris n) line h = uri_is n (nat_lt n 1000) (is_uri_line (text_of line)) (few_lines n) h
at_is Section line h = omega arith
at_is Over line h = omega arith

message_or : (b : Bool) (place : LinePlace) (f : Fate) → count_of place ≤ 1000 → IsFate place f → IsFate place (if b then Pass place else f)
message_or true place f h k = h
message_or false place f h k = k

fate_is : (place : LinePlace) (line : List ℕ) → count_of place ≤ 1000 → IsFate place (fate place line)
fate_is place line h = message_or (is_message line) place (fate_at place line) h (at_is place line h)

after_is : (place : LinePlace) (f : Fate) (size : ℕ) → IsFate place f → IsAfter size (fate_after place f size)
after_is place (Pass next) size h = (omega arith, h, λ e. cc)
after_is place (Take next) size h = (omega arith, h.0, λ e. (omega arith, omega arith, omega arith))
after_is place Refuse size h = (omega arith, h, λ e. cc)

pub line_fate_is : (place : LinePlace) (line : List ℕ) (size : ℕ) (f : Fate) (a : After) → count_of place ≤ 1000 → f ≡ fate place line
    → a ≡ fate_after place f size → IsAfter size a
line_fate_is place line size f a h by after =
    let is : IsAfter size (fate_after place f size) = after_is place f size (rw by (fate_is place line h)) in
    subst (IsAfter size) (sym after) is

steps_by : (place : LinePlace) (f : Fate) (size start end : ℕ) → IsFate place f → start ≡ 0 → 0 < size → end < 65520
    → steps_left (fate_after place f size).place start (fate_after place f size).count (fate_after place f size).next
    < lines_left place * 65521 + (65520 - end)
steps_by place (Pass next) size start end h z some fits =
    let t : nat_lt start size ≡ true = grind (arith, z, some) in rw t (omega arith)
steps_by place (Take next) size start end h z some fits = let l : lines_left next < lines_left place = h.1 in omega arith
steps_by place Refuse size start end h z some fits = omega arith

pub fewer_steps : (place : LinePlace) (line : List ℕ) (size start end : ℕ) (f : Fate) (a : After) → count_of place ≤ 1000
    → f ≡ fate place line → a ≡ fate_after place f size → start ≡ 0 → 0 < size → end < 65520
    → steps_left a.place start a.count a.next < lines_left place * 65521 + (65520 - end)
fewer_steps place line size start end f a h by is z some fits =
    rw is (steps_by place f size start end (rw by (fate_is place line h)) z some fits)
