-- The bytes that are passed on when the bytes arrive in pieces.
use Rattle.std.proofs.Common.{◌≡◌, ℕ, zero, suc, ◌+◌, ◌-◌, ◌<◌, ◌≤◌, ◌==◌, nat_lt, Bool, true, false, if◌then◌else◌, List, [], ◌∷◌, ◌++◌, length, take, drop, Option, Some, None, refl, ap, sym, ◌∙◌, arith, append_assoc, append-nil, eqb-true, length-append, length-drop, length-take, take-add, drop-drop, inl, inr, rules}
use Rattle.std.specs.Option.{option_map}
use Rattle.std.specs.Prelude.{slice_range, codes}
use Rattle.std.proofs.lemmas.List.{take-append-le, take_all, length-take-le}
use Rattle.std.proofs.Math.Seq.{take-append-add}
use Rattle.std.specs.Io.KnownBytes.{Keeps, Consumes, IsAtEnd}
use Rattle.std.proofs.lemmas.Bool.{cases_lt}
use Rattle.gixp_packetline.specs.Frames.{size_of}
use Rattle.gixp_response_end.specs.declared.place.Next.{Next}
use Rattle.gixp_response_end.specs.declared.place.Next.TheVariants.{Line, AnswerEnd, Payload, Rest, Nothing}
use Rattle.gixp_response_end.specs.Order.{needs_digits, steps_left}
use Rattle.gixp_response_end.specs.Answers.{is_number, next_of, given_count, next_after, given_after, advertised_after, given, passed_from}

-- held digits come first, unless more digits come next
pub payload_front : (adv : Bool) (n : ℕ) (held ys : List ℕ) → given adv (Payload n) held ys ≡ held ++ given adv (Payload n) [] ys
payload_front adv n held [] = sym (append-nil held)
payload_front adv zero held (b ∷ ys) = refl
payload_front adv (suc n) held (b ∷ ys) = refl

pub known_front : (adv : Bool) (next : Next) (a b ys : List ℕ) → needs_digits next ≡ false
    → given adv next (a ++ b) ys ≡ a ++ given adv next b ys
known_front adv Line a b ys h = cc
known_front adv AnswerEnd a b ys h = cc
known_front adv (Payload n) a b ys h = payload_front adv n (a ++ b) ys
    ∙ (append_assoc a b (given adv (Payload n) [] ys) ∙ ap (λ zs. a ++ zs) (sym (payload_front adv n b ys)))
known_front adv Rest a b ys h = append_assoc a b ys
known_front adv Nothing a b ys h = refl

-- a payload is passed on unchanged
pub payload_part : (adv : Bool) (n : ℕ) (xs ys : List ℕ) → length xs ≤ n
    → given adv (Payload n) [] (xs ++ ys) ≡ xs ++ given adv (Payload (n - length xs)) [] ys
payload_part adv n [] ys h = let e : n ≡ n - 0 = omega arith in ap (λ k. given adv (Payload k) [] ys) e
payload_part adv zero (x ∷ xs) ys h = absurd (omega arith)
payload_part adv (suc n) (x ∷ xs) ys h =
    let e : n - length xs ≡ suc n - length (x ∷ xs) = omega arith in
    ap (λ zs. x ∷ zs) (payload_part adv n xs ys (omega arith)) ∙ ap (λ k. x ∷ (xs ++ given adv (Payload k) [] ys)) e

-- a packet line after a payload
pub payload_over : (adv : Bool) (ys : List ℕ) → given adv (Payload 0) [] ys ≡ given adv Line [] ys
payload_over adv [] = refl
payload_over adv (b ∷ ys) = refl

-- while digits are missing
missing : (adv : Bool) (next : Next) (held : List ℕ) (x : ℕ) (ys : List ℕ) → needs_digits next ≡ true → length held < 3
    → given adv next held (x ∷ ys) ≡ given adv next (held ++ x ∷ []) ys
missing adv Line held x ys d h = let t : nat_lt (length held) 3 ≡ true = search (rules) in rw t refl
missing adv AnswerEnd held x ys d h = let t : nat_lt (length held) 3 ≡ true = search (rules) in rw t refl
missing adv (Payload n) held x ys d h = cc
missing adv Rest held x ys d h = cc
missing adv Nothing held x ys d h = cc

whole : (adv : Bool) (next : Next) (held : List ℕ) (x : ℕ) (ys : List ℕ) → needs_digits next ≡ true → 3 ≤ length held
    → given adv next held (x ∷ ys) ≡ given_after adv next (size_of (held ++ x ∷ [])) (held ++ x ∷ [])
    ++ given (advertised_after adv (size_of (held ++ x ∷ []))) (next_after adv next (size_of (held ++ x ∷ []))) [] ys
whole adv Line held x ys d h = let t : nat_lt (length held) 3 ≡ false = search (rules) in rw t refl
whole adv AnswerEnd held x ys d h = let t : nat_lt (length held) 3 ≡ false = search (rules) in rw t refl
whole adv (Payload n) held x ys d h = cc
whole adv Rest held x ys d h = cc
whole adv Nothing held x ys d h = cc

pub digits_part : (adv : Bool) (next : Next) (held xs ys : List ℕ) → needs_digits next ≡ true → length held + length xs < 4
    → given adv next held (xs ++ ys) ≡ given adv next (held ++ xs) ys
digits_part adv next held [] ys d h = ap (λ ds. given adv next ds ys) (sym (append-nil held))
digits_part adv next held (x ∷ xs) ys d h = missing adv next held x (xs ++ ys) d (omega arith)
    ∙ (digits_part adv next (held ++ x ∷ []) xs ys d (omega (arith, length-append held (x ∷ [])))
    ∙ ap (λ ds. given adv next ds ys) (append_assoc held (x ∷ []) xs))

pub taken_all : (digits : List ℕ) → length digits ≡ 4 → take 4 digits ≡ digits
taken_all digits four = take_all 4 digits (omega arith)

-- the held digits are all four, or none, and they come first
taken_front : (adv : Bool) (next : Next) (digits ys : List ℕ)
    → take (given_count next) digits ++ given adv next [] ys ≡ given adv next (take (given_count next) digits) ys
taken_front adv Line digits ys = refl
taken_front adv AnswerEnd digits ys = refl
taken_front adv (Payload n) digits ys = sym (payload_front adv n (take 4 digits) ys)
taken_front adv Rest digits ys = refl
taken_front adv Nothing digits ys = refl

by_size : (adv flag : Bool) (next : Next) (size : Option ℕ) (digits ys : List ℕ) → needs_digits next ≡ true
    → given_after adv next size digits ++ given flag (next_after adv next size) [] ys
    ≡ given flag (next_after adv next size) (given_after adv next size digits) ys
by_size adv flag Line size digits ys d = taken_front flag (next_of adv size) digits ys
by_size adv flag AnswerEnd size digits ys d = at (is_number 2 size)
  where
    at : (b : Bool) → (if b then codes "0000" else []) ++ given flag (if b then Payload 0 else Nothing) [] ys
        ≡ given flag (if b then Payload 0 else Nothing) (if b then codes "0000" else []) ys
    at true = sym (payload_front flag 0 (codes "0000") ys)
    at false = refl
by_size adv flag (Payload n) size digits ys d = cc
by_size adv flag Rest size digits ys d = cc
by_size adv flag Nothing size digits ys d = cc

-- the bytes passed on after four digits
abbrev pub told_whole : (adv : Bool) → Next → List ℕ → List ℕ → List ℕ
told_whole adv next digits ys =
    given (advertised_after adv (size_of digits)) (next_after adv next (size_of digits)) (given_after adv next (size_of digits) digits) ys

last_digit : (adv : Bool) (next : Next) (held : List ℕ) (x : ℕ) (xs ys : List ℕ) → needs_digits next ≡ true → 3 ≤ length held
    → length xs ≡ 0 → given adv next held (x ∷ (xs ++ ys)) ≡ told_whole adv next (held ++ x ∷ xs) ys
last_digit adv next held x [] ys d h k = whole adv next held x ys d h
    ∙ by_size adv (advertised_after adv (size_of (held ++ x ∷ []))) next (size_of (held ++ x ∷ [])) (held ++ x ∷ []) ys d
last_digit adv next held x (y ∷ xs) ys d h k = absurd (omega arith)

pub digits_whole : (adv : Bool) (next : Next) (held xs ys : List ℕ) → needs_digits next ≡ true → length held + length xs ≡ 4
    → length held < 4 → given adv next held (xs ++ ys) ≡ told_whole adv next (held ++ xs) ys
digits_whole adv next held [] ys d h k = absurd (omega arith)
digits_whole adv next held (x ∷ xs) ys d h k = elim (cases_lt (length held) 3) [
  | inl lt ↦ missing adv next held x (xs ++ ys) d lt
      ∙ (digits_whole adv next (held ++ x ∷ []) xs ys d (omega (arith, length-append held (x ∷ [])))
      (omega (arith, length-append held (x ∷ [])))
      ∙ ap (λ ds. told_whole adv next ds ys) (append_assoc held (x ∷ []) xs))
  | inr ge ↦ last_digit adv next held x xs ys d ge (omega arith)
]

-- digits that arrived
pub reported : (adv : Bool) (next : Next) (held xs ys : List ℕ) → needs_digits next ≡ true → length held + length xs ≤ 4
    → length held < 4 → given adv next held (xs ++ ys) ≡ passed_from adv next (held ++ xs) ys
reported adv next held xs ys d h k = elim (cases_lt (length (held ++ xs)) 4) [
  | inl lt ↦ let t : nat_lt (length (held ++ xs)) 4 ≡ true = search rules in
      rw t (digits_part adv next held xs ys d (omega (arith, length-append held xs)))
  | inr ge ↦ let t : nat_lt (length (held ++ xs)) 4 ≡ false = search rules in
      rw t (digits_whole adv next held xs ys d (omega (arith, length-append held xs)) k)
]

-- known bytes, through a function
pub consumes_through : (old new : Option (List ℕ)) (bytes out : List ℕ) (f g : List ℕ → List ℕ)
    → Consumes old new bytes → ((ys : List ℕ) → f (bytes ++ ys) ≡ out ++ g ys) → Consumes (option_map f old) (option_map g new) out
consumes_through None new bytes out f g h e = tt
consumes_through (Some xs) None bytes out f g h e = absurd h
consumes_through (Some xs) (Some ys) bytes out f g h e = ap f h ∙ e ys

pub keeps_through : (old new : Option (List ℕ)) (f g : List ℕ → List ℕ) → Keeps old new → ((ys : List ℕ) → f ys ≡ g ys)
    → Keeps (option_map f old) (option_map g new)
keeps_through None new f g h e = tt
keeps_through (Some xs) None f g h e = absurd h
keeps_through (Some xs) (Some ys) f g h e = ap g h ∙ sym (e xs)

pub takes_through : (old new : Option (List ℕ)) (bytes : List ℕ) (f g : List ℕ → List ℕ)
    → Consumes old new bytes → ((ys : List ℕ) → f (bytes ++ ys) ≡ g ys) → Keeps (option_map f old) (option_map g new)
takes_through None new bytes f g h e = tt
takes_through (Some xs) None bytes f g h e = absurd h
takes_through (Some xs) (Some ys) bytes f g h e = sym (ap f h ∙ e ys)

pub end_through : (new : Option (List ℕ)) (f : List ℕ → List ℕ) → IsAtEnd new → f [] ≡ [] → IsAtEnd (option_map f new)
end_through None f h e = tt
end_through (Some ys) f h e = ap f h ∙ e

-- the same where the end is reached
pub end_kept : (old new : Option (List ℕ)) (f g : List ℕ → List ℕ) → Consumes old new [] → IsAtEnd new → f [] ≡ g []
    → Keeps (option_map f old) (option_map g new)
end_kept None new f g h k e = tt
end_kept (Some xs) None f g h k e = absurd h
end_kept (Some xs) (Some ys) f g h k e = sym (ap f (h ∙ k) ∙ (e ∙ ap g (sym k)))

pub keeps_self : (a : Option (List ℕ)) → Keeps a a
keeps_self None = tt
keeps_self (Some xs) = refl

pub keeps_keeps : (a b c : Option (List ℕ)) → Keeps a b → Keeps b c → Keeps a c
keeps_keeps None b c h k = tt
keeps_keeps (Some xs) None c h k = absurd h
keeps_keeps (Some xs) (Some ys) None h k = absurd k
keeps_keeps (Some xs) (Some ys) (Some zs) h k = k ∙ h

pub keeps_consumes : (a b c : Option (List ℕ)) (bytes : List ℕ) → Keeps a b → Consumes b c bytes → Consumes a c bytes
keeps_consumes None b c bytes h k = tt
keeps_consumes (Some xs) None c bytes h k = absurd h
keeps_consumes (Some xs) (Some ys) None bytes h k = absurd k
keeps_consumes (Some xs) (Some ys) (Some zs) bytes h k = sym h ∙ k

pub no_range : (ds : List ℕ) (start end : ℕ) → end ≤ start → slice_range ds start end ≡ []
no_range ds start end h = let e : end - start ≡ 0 = omega arith in ap (λ k. take k (drop start ds)) e

pub first_range : (ds : List ℕ) (start end : ℕ) → start ≡ 0 → slice_range ds start end ≡ take end ds
first_range ds start end h = let e : end - start ≡ end = omega arith in
    ap (λ k. take k (drop start ds)) e ∙ ap (λ k. take end (drop k ds)) h

pub told_digits : (ds buf rest : List ℕ) (start end n : ℕ) → start ≡ 0 → end ≤ length ds → n ≤ length buf
    → take (end + n) (take end ds ++ (buf ++ rest)) ≡ slice_range ds start end ++ take n buf
told_digits ds buf rest start end n first h fits =
    let l : length (take end ds) ≡ end = length-take-le end ds h in
    ap (λ k. take (k + n) (take end ds ++ (buf ++ rest))) (sym l)
    ∙ (take-append-add (take end ds) (buf ++ rest) n
    ∙ (ap (λ xs. take end ds ++ xs) (take-append-le n buf rest fits) ∙ ap (λ xs. xs ++ take n buf) (sym (first_range ds start end first))))

pub range_length : (ds : List ℕ) (start n : ℕ) → start + n ≤ length ds → length (slice_range ds start (start + n)) ≡ n
range_length ds start n h =
    let e : (start + n) - start ≡ n = omega arith in
    ap (λ k. length (take k (drop start ds))) e ∙ length-take-le n (drop start ds) (omega (arith, length-drop start ds))

-- the first of the held digits are passed on
pub range_parts : (ds : List ℕ) (start n end : ℕ) → start + n ≤ end
    → slice_range ds start end ≡ slice_range ds start (start + n) ++ slice_range ds (start + n) end
range_parts ds start n end h =
    let e : end - start ≡ n + (end - (start + n)) = omega arith in
    let f : n ≡ (start + n) - start = omega arith in
    ap (λ k. take k (drop start ds)) e
    ∙ (take-add n (end - (start + n)) (drop start ds)
    ∙ (ap (λ xs. take n (drop start ds) ++ take (end - (start + n)) xs) (drop-drop n start ds)
    ∙ ap (λ k. take k (drop start ds) ++ take (end - (start + n)) (drop (start + n) ds)) f))

pub gives_digits : (o : Option (List ℕ)) (adv : Bool) (next : Next) (held out later : List ℕ) → needs_digits next ≡ false
    → held ≡ out ++ later → Consumes (option_map (given adv next held) o) (option_map (given adv next later) o) out
gives_digits None adv next held out later l e = tt
gives_digits (Some bytes) adv next held out later l e =
    ap (λ ds. given adv next ds bytes) e ∙ known_front adv next out later bytes l

pub reads_payload : (old new : Option (List ℕ)) (adv : Bool) (next : Next) (held buf rest : List ℕ) (left n : ℕ)
    → next ≡ Payload left → held ≡ [] → n ≤ length buf → length buf ≤ left → 0 < length buf → Consumes old new (take n buf)
    → (n ≡ 0 → 0 < length buf → IsAtEnd new)
    → Consumes (option_map (given adv next held) old) (option_map (given adv (Payload (left - n)) held) new) (take n (buf ++ rest))
    × (n ≡ 0 → 0 < length (buf ++ rest) → IsAtEnd (option_map (given adv (Payload (left - n)) held) new))
reads_payload old new adv next held buf rest left n is none fits bound some received at_end =
    let l : length (take n buf) ≡ n = length-take-le n buf fits in
    rw (is, none, take-append-le n buf rest fits) (
      consumes_through old new (take n buf) (take n buf) (given adv (Payload left) []) (given adv (Payload (left - n)) []) received
          (λ ys. payload_part adv left (take n buf) ys (omega arith)
          ∙ ap (λ k. take n buf ++ given adv (Payload (left - k)) [] ys) l),
      λ z _. end_through new (given adv (Payload (left - n)) []) (at_end z some) refl,
    )

pub takes_digits : (old new : Option (List ℕ)) (adv : Bool) (next : Next) (held buf told_digits : List ℕ) (n : ℕ)
    → needs_digits next ≡ true → length held < 4 → length held + n ≤ 4 → n ≤ length buf → told_digits ≡ held ++ take n buf
    → Consumes old new (take n buf) → Keeps (option_map (given adv next held) old) (option_map (passed_from adv next told_digits) new)
takes_digits old new adv next held buf told_digits n d few bound fits e received =
    let l : length (take n buf) ≡ n = length-take-le n buf fits in
    rw e (takes_through old new (take n buf) (given adv next held) (passed_from adv next (held ++ take n buf)) received
    (λ ys. reported adv next held (take n buf) ys d (omega arith) few))

pub over_payload : (o : Option (List ℕ)) (adv : Bool) (next : Next) (held : List ℕ) (left : ℕ) → next ≡ Payload left → left ≡ 0
    → held ≡ [] → Keeps (option_map (given adv next held) o) (option_map (given adv Line []) o)
over_payload o adv next held left is zero_left none =
    rw (is, zero_left, none) (keeps_through o o (given adv (Payload 0) []) (given adv Line []) (keeps_self o) (payload_over adv))

pub reads_rest : (old new : Option (List ℕ)) (adv : Bool) (next : Next) (held buf : List ℕ) (n : ℕ) → next ≡ Rest → held ≡ []
    → n ≤ length buf → 0 < length buf → Consumes old new (take n buf) → (n ≡ 0 → 0 < length buf → IsAtEnd new)
    → (n ≤ length buf) × Consumes (option_map (given adv next held) old) (option_map (given adv next held) new) (take n buf)
    × (n ≡ 0 → IsAtEnd (option_map (given adv next held) new))
reads_rest old new adv next held buf n is none fits some received at_end =
    rw (is, none) (
      fits,
      consumes_through old new (take n buf) (take n buf) (given adv Rest []) (given adv Rest []) received (λ ys. refl),
      λ z. end_through new (given adv Rest []) (at_end z some) refl,
    )

-- four digits were taken
took_whole : (o : Option (List ℕ)) (adv flag : Bool) (next place : Next) (digits held : List ℕ) → length digits ≡ 4
    → next ≡ next_after adv place (size_of digits) → flag ≡ advertised_after adv (size_of digits)
    → held ≡ given_after adv place (size_of digits) digits
    → option_map (given flag next held) o ≡ option_map (passed_from adv place digits) o
took_whole None adv flag next place digits held four n f h = refl
took_whole (Some bytes) adv flag next place digits held four n f h =
    let t : nat_lt (length digits) 4 ≡ false = search rules in rw (n, f, h, t) refl

pub took_line : (o : Option (List ℕ)) (adv flag : Bool) (next : Next) (size : Option ℕ) (digits : List ℕ) (start end : ℕ)
    → length digits ≡ 4 → start ≡ 0 → size ≡ size_of digits → next ≡ next_of adv size → flag ≡ advertised_after adv size
    → end ≡ given_count next
    → option_map (given flag next (slice_range digits start end)) o ≡ option_map (passed_from adv Line digits) o
took_line o adv flag next size digits start end four first s n f e =
    took_whole o adv flag next Line digits (slice_range digits start end) four (n ∙ ap (next_of adv) s) (f ∙ ap (advertised_after adv) s)
    (first_range digits start end first ∙ ap (λ k. take k digits) (e ∙ ap given_count (n ∙ ap (next_of adv) s)))

is_two : (size : Option ℕ) → is_number 2 size ≡ true → size ≡ Some 2
is_two None h = cc
is_two (Some n) h = ap Some (eqb-true n 2 h)

pub took_end : (o : Option (List ℕ)) (adv closes : Bool) (size : Option ℕ) (digits : List ℕ) (start : ℕ)
    → length digits ≡ 4 → start ≡ 0 → size ≡ size_of digits → closes ≡ is_number 2 size → closes ≡ true
    → option_map (given adv (Payload 0) (slice_range (codes "0000") start 4)) o ≡ option_map (passed_from adv AnswerEnd digits) o
took_end o adv closes size digits start four first s c is_true =
    let is : size_of digits ≡ Some 2 = sym s ∙ is_two size (sym c ∙ is_true) in
    took_whole o adv adv (Payload 0) AnswerEnd digits (slice_range (codes "0000") start 4) four (rw is refl) (rw is refl)
    (rw is (first_range (codes "0000") start 4 first))

pub took_part : (o : Option (List ℕ)) (adv : Bool) (next : Next) (digits : List ℕ) (start end : ℕ) → end < 4 → start ≡ 0
    → option_map (given adv next (slice_range digits start end)) o ≡ option_map (passed_from adv next (take end digits)) o
took_part None adv next digits start end few first = refl
took_part (Some bytes) adv next digits start end few first =
    let t : nat_lt (length (take end digits)) 4 ≡ true = search (rules, length-take end digits) in
    rw (first_range digits start end first, t) refl

pub over_steps : (start end left : ℕ) (next : Next) → next ≡ Payload left → end ≤ start → 10 < steps_left start end next
over_steps start end left next is h = let t : nat_lt start end ≡ false = search rules in rw (is, t) (omega arith)
