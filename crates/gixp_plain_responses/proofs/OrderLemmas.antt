-- What is held after four bytes in place of digits, and after a whole line.
use Rattle.std.proofs.Common.{◌≡◌, ℕ, ◌+◌, ◌-◌, ◌<◌, ◌≤◌, ◌==◌, nat_lt, Bool, true, false, if◌then◌else◌, List, [], ◌++◌, length, take, drop, Option, Some, None, refl, ap, sym, ◌∙◌, arith, rules, inl, inr, append_assoc, length-take, subst}
use Rattle.std.specs.Option.{option_map}
use Rattle.std.specs.Prelude.{codes, slice_range}
use Rattle.std.specs.Io.KnownBytes.{Keeps, Consumes, IsAtEnd}
use Rattle.std.proofs.lemmas.Bool.{or_cases, eqb-true, cond-true, cond-false}
use Rattle.std.proofs.lemmas.List.{take-take, drop-take, drop_at, length-take-le}
use Rattle.std.proofs.lemmas.Slice.Eq.{bytes_eq-Decides}
use Rattle.gixp_packetline.specs.Frames.{size_of}
use Rattle.gixp_plain_responses.specs.declared.place.Wanted.{Wanted}
use Rattle.gixp_plain_responses.specs.declared.place.Wanted.TheVariants.{Digits, Line, Content}
use Rattle.gixp_plain_responses.specs.declared.place.Next.{Next}
use Rattle.gixp_plain_responses.specs.declared.place.Next.TheVariants.{Hold, Payload, Pack, Rest, Nothing}
use Rattle.gixp_plain_responses.specs.Acknowledgement.{is_continue, common_text}
use Rattle.gixp_plain_responses.specs.Band.{last_text}
use Rattle.gixp_plain_responses.specs.Order.{is_holding, is_content, size_wanted, offset_of, limit_of, first_of, last_of, steps_left}
use Rattle.gixp_plain_responses.specs.Translation.{begins_pack, is_line_size, next_by, next_of, given, whole_from, translated_from, EndsWanted}
use Rattle.gixp_plain_responses.proofs.AcknowledgementLemmas.{continue_long}
use Rattle.gixp_plain_responses.proofs.GivenLemmas.{first_range, took_whole, took_part, length-range, ends_through}

pub limit_is : (w : Wanted) → limit_of w ≡ offset_of w + size_wanted w
limit_is Digits = refl
limit_is (Line size) = omega arith
limit_is Content = refl

-- this much is held, and this next
abbrev pub IsAfter : (start end : ℕ) → Next → Type 0
IsAfter start end next =
    (is_holding next ≡ true → (start ≡ first_of next) × (end < last_of next) × (4 ≤ last_of next) × (last_of next ≤ 65520))
    × (steps_left start end next < 79996)

pub content_after : (next : Next) → is_content next ≡ true → IsAfter 5 9 next
content_after (Hold Digits) h = cc
content_after (Hold (Line size)) h = cc
content_after (Hold Content) h = (λ e. (refl, omega arith, omega arith, omega arith), omega arith)
content_after (Payload n) h = cc
content_after Pack h = cc
content_after Rest h = cc
content_after Nothing h = cc

passed_after : (n : ℕ) → IsAfter 0 4 (Payload n)
passed_after n = (λ e. cc, omega arith)

by_tests : (size : ℕ) (a b c d : Bool) → (d ≡ true → (57 ≤ size) × (size ≤ 58))
    → IsAfter 0 4 (if a then Payload 0 else if b then Rest else if c then Rest else if d then Hold (Line size) else Payload (size - 4))
by_tests size true b c d h = passed_after 0
by_tests size false true c d h = (λ e. cc, omega arith)
by_tests size false false true d h = (λ e. cc, omega arith)
by_tests size false false false true h =
    let l = h refl in (λ e. (refl, omega (arith, l.0), omega (arith, l.0), omega (arith, l.1)), omega arith)
by_tests size false false false false h = passed_after (size - 4)

line_size : (size : ℕ) → is_line_size size ≡ true → (57 ≤ size) × (size ≤ 58)
line_size size h = elim (or_cases (size == 57) (size == 58) h) [
  | inl e ↦ let k : size ≡ 57 = eqb-true size 57 e in (omega (arith, k), omega (arith, k))
  | inr e ↦ let k : size ≡ 58 = eqb-true size 58 e in (omega (arith, k), omega (arith, k))
]

by_after : (o : Option ℕ) → IsAfter 0 4 (next_by o)
by_after None = (λ e. cc, omega arith)
by_after (Some size) =
    by_tests size (nat_lt size 3) (nat_lt size 5) (nat_lt 65520 size) (is_line_size size) (line_size size)

of_after : (b : Bool) (o : Option ℕ) → is_content (if b then Hold Content else next_by o) ≡ false
    → IsAfter 0 4 (if b then Hold Content else next_by o)
of_after true o h = cc
of_after false o h = by_after o

pub digits_after : (start : ℕ) (digits : List ℕ) (next : Next) → start ≡ 0 → next ≡ next_of digits → is_content next ≡ false
    → IsAfter start 4 next
digits_after start digits next z is h = rw (z, is) (of_after (begins_pack digits) (size_of digits) (subst (λ n. is_content n ≡ false) is h))

-- content comes after a pack's first bytes only
no_content : (a b c d : Bool) (size : ℕ)
    → is_content (if a then Payload 0 else if b then Rest else if c then Rest else if d then Hold (Line size) else Payload (size - 4)) ≡ false
no_content true b c d size = refl
no_content false true c d size = refl
no_content false false true d size = refl
no_content false false false true size = refl
no_content false false false false size = refl

by_no_content : (o : Option ℕ) → is_content (next_by o) ≡ false
by_no_content None = refl
by_no_content (Some size) = no_content (nat_lt size 3) (nat_lt size 5) (nat_lt 65520 size) (is_line_size size) size

pack_by : (b : Bool) (o : Option ℕ) → is_content (if b then Hold Content else next_by o) ≡ true → b ≡ true
pack_by true o h = refl
pack_by false o h = sym (by_no_content o) ∙ h

pub pack_digits : (digits : List ℕ) (next : Next) → next ≡ next_of digits → is_content next ≡ true → digits ≡ codes "PACK"
pack_digits digits next is h =
    (bytes_eq-Decides digits (codes "PACK")).0 (pack_by (begins_pack digits) (size_of digits) (sym (ap is_content is) ∙ h))

-- the bytes after four in place of digits, when they were put behind the place for a header
pub pack_bytes : (o : Option (List ℕ)) (old new digits : List ℕ) (next : Next) → digits ≡ take 4 old → next ≡ next_of digits
    → is_content next ≡ true → 9 ≤ length old → new ≡ (take 5 old ++ codes "PACK") ++ drop 9 old
    → option_map (given next (slice_range new 5 9)) o ≡ option_map (whole_from Digits (slice_range old 0 4)) o
pack_bytes o old new digits next d is h long e =
    let pack : take 4 old ≡ codes "PACK" = sym d ∙ pack_digits digits next is h in
    let len : length (take 5 old) ≡ 5 = length-take-le 5 old (omega (arith, long)) in
    let all : drop 5 new ≡ codes "PACK" ++ drop 9 old =
    ap (drop 5) (e ∙ append_assoc (take 5 old) (codes "PACK") (drop 9 old)) ∙ drop_at (take 5 old) (codes "PACK" ++ drop 9 old) 5 len in
    let held : slice_range new 5 9 ≡ take 4 old = ap (take 4) all ∙ sym pack in
    let same : next ≡ next_of (take 4 old) = is ∙ ap next_of d in
    ap (λ h. option_map (given next h) o) held ∙ ap (λ n. option_map (given n (take 4 old)) o) same

-- otherwise they stay where they are
pub digit_bytes : (o : Option (List ℕ)) (old digits : List ℕ) (next : Next) (start : ℕ) → start ≡ 0 → digits ≡ take 4 old
    → next ≡ next_of digits
    → option_map (given next (slice_range old start 4)) o ≡ option_map (whole_from Digits (slice_range old 0 4)) o
digit_bytes o old digits next start z d is =
    ap (λ h. option_map (given next h) o) (first_range old start 4 z) ∙ ap (λ n. option_map (given n (take 4 old)) o) (is ∙ ap next_of d)

-- a whole line, of which `line` is the payload
line_held : (old line : List ℕ) (size : ℕ) → 4 ≤ size → line ≡ take (size - 4) (drop 4 old) → drop 4 (slice_range old 0 size) ≡ line
line_held old line size h e =
    let k : 4 + (size - 4) ≡ size = omega arith in
    ap (drop 4) (first_range old 0 size refl) ∙ ap (λ n. drop 4 (take n old)) (sym k) ∙ drop-take 4 (size - 4) old ∙ sym e

pub common_bytes : (o : Option (List ℕ)) (old new line : List ℕ) (start size : ℕ) → start ≡ 0 → 4 ≤ size → size ≤ length old
    → line ≡ take (size - 4) (drop 4 old) → is_continue line ≡ true → take 56 new ≡ common_text (take 44 (drop 4 old))
    → option_map (given (Payload 0) (slice_range new start 56)) o ≡ option_map (whole_from (Line size) (slice_range old 0 size)) o
common_bytes o old new line start size z h there l is text =
    let held = slice_range old 0 size in
    let same : drop 4 held ≡ line = line_held old line size h l in
    let long : 53 ≤ length line = continue_long line is in
    let most : length line ≤ size - 4 = omega (arith, ap length l, length-take (size - 4) (drop 4 old)) in
    let t : is_continue (drop 4 held) ≡ true = ap is_continue same ∙ is in
    let part : take 44 (drop 4 old) ≡ take 44 (drop 4 held) =
    sym (take-take 44 (size - 4) (drop 4 old) (omega (arith, long, most))) ∙ ap (take 44) (sym l ∙ sym same) in
    ap (λ h. option_map (given (Payload 0) h) o) (first_range new start 56 z ∙ text ∙ ap common_text part
    ∙ sym (cond-true (is_continue (drop 4 held)) (common_text (take 44 (drop 4 held))) held t))

pub line_bytes : (o : Option (List ℕ)) (old line : List ℕ) (start size : ℕ) → start ≡ 0 → 4 ≤ size
    → line ≡ take (size - 4) (drop 4 old) → is_continue line ≡ false
    → option_map (given (Payload 0) (slice_range old start size)) o ≡ option_map (whole_from (Line size) (slice_range old 0 size)) o
line_bytes o old line start size z h l is =
    let held = slice_range old 0 size in
    let t : is_continue (drop 4 held) ≡ false = ap is_continue (line_held old line size h l) ∙ is in
    ap (λ h. option_map (given (Payload 0) h) o) (first_range old start size z ∙ sym (first_range old 0 size refl)
    ∙ sym (cond-false (is_continue (drop 4 held)) (common_text (take 44 (drop 4 held))) held t))

pub payload_steps : (start end k : ℕ) → start < end → 0 < k → steps_left start end (Payload 0) < k
payload_steps start end k h p = let t : nat_lt start end ≡ true = search rules in rw t p

-- wanted bytes, all of them or some
pub wanted_whole : (o : Option (List ℕ)) (w : Wanted) (room : List ℕ) (end : ℕ) → end ≤ limit_of w → limit_of w ≤ end
    → limit_of w ≤ length room
    → option_map (whole_from w (slice_range room (offset_of w) (limit_of w))) o
    ≡ option_map (translated_from w (slice_range room (offset_of w) end)) o
wanted_whole o w room end most least there =
    let e : limit_of w ≡ end = omega (arith, most, least) in
    let l = limit_is w in
    let len : length (slice_range room (offset_of w) (limit_of w)) ≡ limit_of w - offset_of w =
    length-range room (offset_of w) (limit_of w) (omega (arith, l)) there in
    took_whole o w (slice_range room (offset_of w) (limit_of w)) (omega (arith, len, l))
    ∙ ap (λ n. option_map (translated_from w (slice_range room (offset_of w) n)) o) e

pub wanted_part : (o : Option (List ℕ)) (w : Wanted) (next : Next) (room : List ℕ) (start end : ℕ) → next ≡ Hold w → start ≡ first_of next
    → start ≤ end → end < limit_of w → end ≤ length room
    → option_map (given next (slice_range room start end)) o ≡ option_map (translated_from w (slice_range room (offset_of w) end)) o
wanted_part o w next room start end is first order few there =
    let z : start ≡ offset_of w = first ∙ ap first_of is in
    let l = limit_is w in
    let len : length (slice_range room (offset_of w) end) ≡ end - offset_of w =
    length-range room (offset_of w) end (omega (arith, z, order)) there in
    took_part o w next (slice_range room (offset_of w) end) (slice_range room start end) (omega (arith, len, l, few, z, order)) is
    (ap (λ n. slice_range room n end) z)

-- the end of the stream
content_is : (next : Next) (held : List ℕ) → next ≡ Hold Content → given next held [] ≡ last_text held
content_is next held is = ap (λ n. given n held []) is

pub pack_ends : (o : Option (List ℕ)) (next : Next) (old new : List ℕ) (start end result : ℕ) → next ≡ Hold Content → IsAtEnd o
    → start ≡ 5 → take result new ≡ last_text (slice_range old 5 end)
    → Keeps (option_map (given next (slice_range old start end)) o) (option_map (given Nothing (slice_range new 0 result)) o)
pack_ends o next old new start end result is at_end five text =
    ends_through o (given next (slice_range old start end)) (given Nothing (slice_range new 0 result)) at_end
    (content_is next (slice_range old start end) is ∙ ap (λ n. last_text (slice_range old n end)) five ∙ sym text
    ∙ sym (first_range new 0 result refl))

pub content_next : (next : Next) → is_content next ≡ true → next ≡ Hold Content
content_next (Hold Digits) h = cc
content_next (Hold (Line size)) h = cc
content_next (Hold Content) h = refl
content_next (Payload n) h = cc
content_next Pack h = cc
content_next Rest h = cc
content_next Nothing h = cc

pub steps_rest : (next : Next) (start end : ℕ) → is_holding next ≡ true → end < 65520 → 0 < steps_left start end next
steps_rest (Hold Digits) start end h few = omega (arith, few)
steps_rest (Hold (Line size)) start end h few = omega (arith, few)
steps_rest (Hold Content) start end h few = omega (arith, few)
steps_rest (Payload n) start end h few = cc
steps_rest Pack start end h few = cc
steps_rest Rest start end h few = cc
steps_rest Nothing start end h few = cc

-- a read of no byte, and then the end
keeps_both : (a b c : Option (List ℕ)) → Keeps a b → Keeps b c → Keeps a c
keeps_both None b c h k = tt
keeps_both (Some xs) None c h k = absurd h
keeps_both (Some xs) (Some ys) None h k = absurd k
keeps_both (Some xs) (Some ys) (Some zs) h k = k ∙ h

pub ends_later : (old mid new : Option (List ℕ)) (steps left : ℕ) (b : Bool) → Keeps old mid → EndsWanted mid new steps left b
    → EndsWanted old new steps left b
ends_later old mid new steps left true h k = (keeps_both old mid new h k.0, k.1)
ends_later old mid new steps left false h k = (keeps_both old mid new h k.0, k.1)

pub reads_none : (old new : Option (List ℕ)) (next : Next) (held kept got : List ℕ) → Consumes old new got → got ≡ [] → kept ≡ held
    → Keeps (option_map (given next held) old) (option_map (given next kept) new)
reads_none None new next held kept got h none same = tt
reads_none (Some xs) None next held kept got h none same = absurd h
reads_none (Some xs) (Some ys) next held kept got h none same =
    ap (λ k. given next k ys) same ∙ ap (given next held) (sym (h ∙ ap (λ zs. zs ++ ys) none))

pub digits_steps : (next : Next) (start end k : ℕ) → next ≡ Hold Digits → end < last_of next → k < 79996 → k < steps_left start end next
digits_steps next start end k is few small = let e : end < 4 = subst (λ n. end < n) (ap last_of is) few in rw is (omega (arith, e, small))

-- a failed read
pub reads_failed : (old new : Option (List ℕ)) (next : Next) (held kept : List ℕ) → Keeps old new → kept ≡ held
    → Keeps (option_map (given next held) old) (option_map (given next kept) new)
reads_failed None new next held kept h same = tt
reads_failed (Some xs) None next held kept h same = absurd h
reads_failed (Some xs) (Some ys) next held kept h same = ap (λ k. given next k ys) same ∙ ap (given next held) h
