-- The bytes that are passed on and the lines that the sink takes, when the bytes arrive in pieces.
use Rattle.std.proofs.Common.{◌≡◌, ℕ, zero, suc, ◌+◌, ◌-◌, ◌<◌, ◌≤◌, ◌==◌, nat_eq, nat_lt, Bool, true, false, if◌then◌else◌, List, [], ◌∷◌, ◌++◌, length, take, drop, Option, Some, None, refl, ap, sym, ◌∙◌, arith, append_assoc, append-nil, ne_eqb, length-append, length-drop, length-take, take-add, drop-drop, inl, inr, rules}
use Rattle.std.specs.Option.{option_map}
use Rattle.std.specs.Prelude.{slice_range}
use Rattle.std.proofs.lemmas.List.{take-append-le, take_all, length-take-le, drop-take}
use Rattle.std.specs.Io.KnownBytes.{Keeps, Consumes, IsAtEnd}
use Rattle.std.proofs.lemmas.Bool.{cases_lt}
use Rattle.gixp_packfile_uris.specs.declared.place.LinePlace.{LinePlace}
use Rattle.gixp_packfile_uris.specs.declared.place.Fate.{Fate}
use Rattle.gixp_packfile_uris.specs.declared.place.Next.{Next}
use Rattle.gixp_packfile_uris.specs.declared.place.After.{After}
use Rattle.gixp_packfile_uris.specs.declared.place.Next.TheVariants.{Hold, Payload, Rest, Refused}
use Rattle.gixp_packfile_uris.specs.Order.{is_holding}
use Rattle.gixp_packfile_uris.specs.Line.{text_of, fate}
use Rattle.gixp_packfile_uris.specs.Parts.{Parts, ending, following, parts, parts_from, passed_from, lines_from, refused_from, fate_after, takes_uri, held_after, lines_held}
use Rattle.gixp_packfile_uris.specs.Sink.{TakesLines, all_lines, SameKnown}

pub not_less : (m n : ℕ) → n ≤ m → nat_lt m n ≡ false
not_less m n h = search rules

-- held bytes come first, unless a line is held
pub payload_front : (place : LinePlace) (n : ℕ) (held ys : List ℕ) → parts place (Payload n) held ys ≡ following held [] (parts place (Payload n) [] ys)
payload_front place n held [] = ap ending (sym (append-nil held))
payload_front place zero held (b ∷ ys) = refl
payload_front place (suc n) held (b ∷ ys) = refl

-- two front parts, one after the other
following_twice : (a b : List ℕ) (p : Parts) → following (a ++ b) [] p ≡ following a [] (following b [] p)
following_twice a b p = let P : List ℕ → Parts = λ xs. record { passed = xs; lines = p.lines; is_refused = p.is_refused } in ap P (append_assoc a b p.passed)

pub known_front : (place : LinePlace) (next : Next) (a b ys : List ℕ) → is_holding next ≡ false
    → parts place next (a ++ b) ys ≡ following a [] (parts place next b ys)
known_front place (Hold size) a b ys h = cc
known_front place (Payload n) a b ys h = payload_front place n (a ++ b) ys
    ∙ (following_twice a b (parts place (Payload n) [] ys) ∙ ap (following a []) (sym (payload_front place n b ys)))
known_front place Rest a b ys h = ap ending (append_assoc a b ys)
known_front place Refused a b ys h = refl

-- a payload is passed on unchanged
pub payload_part : (place : LinePlace) (n : ℕ) (xs ys : List ℕ) → length xs ≤ n
    → parts place (Payload n) [] (xs ++ ys) ≡ following xs [] (parts place (Payload (n - length xs)) [] ys)
payload_part place n [] ys h = let e : n ≡ n - 0 = omega arith in ap (λ k. parts place (Payload k) [] ys) e
payload_part place zero (x ∷ xs) ys h = absurd (omega arith)
payload_part place (suc n) (x ∷ xs) ys h =
    let e : n - length xs ≡ suc n - length (x ∷ xs) = omega arith in
    ap (following (x ∷ []) []) (payload_part place n xs ys (omega arith))
    ∙ ap (λ k. following (x ∷ xs) [] (parts place (Payload k) [] ys)) e

-- a packet line after a payload
pub payload_over : (place : LinePlace) (ys : List ℕ) → parts place (Payload 0) [] ys ≡ parts place (Hold 4) [] ys
payload_over place [] = refl
payload_over place (b ∷ ys) = refl

-- what is passed on after a whole line
abbrev pub whole : LinePlace → ℕ → List ℕ → List ℕ → Parts
whole place size held ys = following [] (lines_held place size held)
    (parts (held_after place size held).place (held_after place size held).next (take (held_after place size held).count held) ys)

-- while bytes are missing
missing : (place : LinePlace) (size : ℕ) (held : List ℕ) (x : ℕ) (ys : List ℕ) → length held + 1 < size
    → parts place (Hold size) held (x ∷ ys) ≡ parts place (Hold size) (held ++ x ∷ []) ys
missing place size held x ys h = let t : nat_lt (length held + 1) size ≡ true = search (rules) in rw t refl

complete : (place : LinePlace) (size : ℕ) (held : List ℕ) (x : ℕ) (ys : List ℕ) → size ≤ length held + 1
    → parts place (Hold size) held (x ∷ ys) ≡ whole place size (held ++ x ∷ []) ys
complete place size held x ys h = let t : nat_lt (length held + 1) size ≡ false = search (rules) in rw t refl

pub held_part : (place : LinePlace) (size : ℕ) (held xs ys : List ℕ) → length held + length xs < size
    → parts place (Hold size) held (xs ++ ys) ≡ parts place (Hold size) (held ++ xs) ys
held_part place size held [] ys h = ap (λ ds. parts place (Hold size) ds ys) (sym (append-nil held))
held_part place size held (x ∷ xs) ys h = missing place size held x (xs ++ ys) (omega arith)
    ∙ (held_part place size (held ++ x ∷ []) xs ys (omega (arith, length-append held (x ∷ [])))
    ∙ ap (λ ds. parts place (Hold size) ds ys) (append_assoc held (x ∷ []) xs))

last_byte : (place : LinePlace) (size : ℕ) (held : List ℕ) (x : ℕ) (xs ys : List ℕ) → size ≤ length held + 1 → length xs ≡ 0
    → parts place (Hold size) held (x ∷ (xs ++ ys)) ≡ whole place size (held ++ x ∷ xs) ys
last_byte place size held x [] ys h k = complete place size held x ys h
last_byte place size held x (y ∷ xs) ys h k = absurd (omega arith)

pub held_whole : (place : LinePlace) (size : ℕ) (held xs ys : List ℕ) → length held + length xs ≡ size → length held < size
    → parts place (Hold size) held (xs ++ ys) ≡ whole place size (held ++ xs) ys
held_whole place size held [] ys h k = absurd (omega arith)
held_whole place size held (x ∷ xs) ys h k = elim (cases_lt (length held + 1) size) [
  | inl lt ↦ missing place size held x (xs ++ ys) lt
      ∙ (held_whole place size (held ++ x ∷ []) xs ys (omega (arith, length-append held (x ∷ [])))
      (omega (arith, length-append held (x ∷ [])))
      ∙ ap (λ ds. whole place size ds ys) (append_assoc held (x ∷ []) xs))
  | inr ge ↦ last_byte place size held x xs ys ge (omega arith)
]

-- bytes that arrived
pub reported : (place : LinePlace) (size : ℕ) (held xs ys : List ℕ) → length held + length xs ≤ size → length held < size
    → parts place (Hold size) held (xs ++ ys) ≡ parts_from place size (held ++ xs) ys
reported place size held xs ys h k = elim (cases_lt (length (held ++ xs)) size) [
  | inl lt ↦ let t : nat_lt (length (held ++ xs)) size ≡ true = search rules in
      rw t (held_part place size held xs ys (omega (arith, length-append held xs)))
  | inr ge ↦ let t : nat_lt (length (held ++ xs)) size ≡ false = search rules in
      rw t (held_whole place size held xs ys (omega (arith, length-append held xs)) k)
]

-- known bytes, through a function
pub consumes_through : (old new : Option (List ℕ)) (bytes out : List ℕ) (f g : List ℕ → List ℕ)
    → Consumes old new bytes → ((ys : List ℕ) → f (bytes ++ ys) ≡ out ++ g ys) → Consumes (option_map f old) (option_map g new) out
consumes_through None new bytes out f g h e = tt
consumes_through (Some xs) None bytes out f g h e = absurd h
consumes_through (Some xs) (Some ys) bytes out f g h e = ap f h ∙ e ys

pub takes_through : (old new : Option (List ℕ)) (bytes : List ℕ) (f g : List ℕ → List ℕ)
    → Consumes old new bytes → ((ys : List ℕ) → f (bytes ++ ys) ≡ g ys) → Keeps (option_map f old) (option_map g new)
takes_through None new bytes f g h e = tt
takes_through (Some xs) None bytes f g h e = absurd h
takes_through (Some xs) (Some ys) bytes f g h e = sym (ap f h ∙ e ys)

-- known lines, through a function
pub lines_through : (taken : Option (List (List ℕ))) (old new : Option (List ℕ)) (bytes : List ℕ) (f g : List ℕ → List (List ℕ))
    → Consumes old new bytes → ((ys : List ℕ) → f (bytes ++ ys) ≡ g ys)
    → SameKnown (all_lines taken (option_map f old)) (all_lines taken (option_map g new))
lines_through None old new bytes f g h e = tt
lines_through (Some t) None new bytes f g h e = tt
lines_through (Some t) (Some xs) None bytes f g h e = absurd h
lines_through (Some t) (Some xs) (Some ys) bytes f g h e = ap (λ ls. t ++ ls) (sym (ap f h ∙ e ys))

-- any known value, through a function
pub known_through : {A : Type 0} (old new : Option (List ℕ)) (bytes : List ℕ) (f g : List ℕ → A)
    → Consumes old new bytes → ((ys : List ℕ) → f (bytes ++ ys) ≡ g ys) → SameKnown (option_map f old) (option_map g new)
known_through None new bytes f g h e = tt
known_through (Some xs) None bytes f g h e = absurd h
known_through (Some xs) (Some ys) bytes f g h e = sym (ap f h ∙ e ys)

pub same_same : {A : Type 0} (a b c : Option A) → SameKnown a b → SameKnown b c → SameKnown a c
same_same None b c h k = tt
same_same (Some x) None c h k = absurd h
same_same (Some x) (Some y) None h k = absurd k
same_same (Some x) (Some y) (Some z) h k = k ∙ h

pub no_range : (ds : List ℕ) (start end : ℕ) → end ≤ start → slice_range ds start end ≡ []
no_range ds start end h = let e : end - start ≡ 0 = omega arith in ap (λ k. take k (drop start ds)) e

pub first_range : (ds : List ℕ) (start end : ℕ) → start ≡ 0 → slice_range ds start end ≡ take end ds
first_range ds start end h = let e : end - start ≡ end = omega arith in
    ap (λ k. take k (drop start ds)) e ∙ ap (λ k. take end (drop k ds)) h

pub range_length : (ds : List ℕ) (start n : ℕ) → start + n ≤ length ds → length (slice_range ds start (start + n)) ≡ n
range_length ds start n h =
    let e : (start + n) - start ≡ n = omega arith in
    ap (λ k. length (take k (drop start ds))) e ∙ length-take-le n (drop start ds) (omega (arith, length-drop start ds))

-- the first of the held bytes are passed on
pub range_parts : (ds : List ℕ) (start n end : ℕ) → start + n ≤ end
    → slice_range ds start end ≡ slice_range ds start (start + n) ++ slice_range ds (start + n) end
range_parts ds start n end h =
    let e : end - start ≡ n + (end - (start + n)) = omega arith in
    let f : n ≡ (start + n) - start = omega arith in
    ap (λ k. take k (drop start ds)) e
    ∙ (take-add n (end - (start + n)) (drop start ds)
    ∙ (ap (λ xs. take n (drop start ds) ++ take (end - (start + n)) xs) (drop-drop n start ds)
    ∙ ap (λ k. take k (drop start ds) ++ take (end - (start + n)) (drop (start + n) ds)) f))

-- held bytes are passed on
pub gives_held : (o : Option (List ℕ)) (place : LinePlace) (next : Next) (held out later : List ℕ) → is_holding next ≡ false
    → held ≡ out ++ later
    → Consumes (option_map (λ bs. (parts place next held bs).passed) o) (option_map (λ bs. (parts place next later bs).passed) o) out
gives_held None place next held out later d e = tt
gives_held (Some bs) place next held out later d e =
    ap (λ h. (parts place next h bs).passed) e ∙ ap (λ (p : Parts). p.passed) (known_front place next out later bs d)

pub gives_no_line : (taken : Option (List (List ℕ))) (o : Option (List ℕ)) (place : LinePlace) (next : Next) (held out later : List ℕ)
    → is_holding next ≡ false → held ≡ out ++ later
    → SameKnown (all_lines taken (option_map (λ bs. (parts place next held bs).lines) o))
    (all_lines taken (option_map (λ bs. (parts place next later bs).lines) o))
gives_no_line None o place next held out later d e = tt
gives_no_line (Some t) None place next held out later d e = tt
gives_no_line (Some t) (Some bs) place next held out later d e =
    ap (λ ls. t ++ ls) (sym (ap (λ h. (parts place next h bs).lines) e ∙ ap (λ (p : Parts). p.lines) (known_front place next out later bs d)))

-- bytes of a line are held
pub takes_held : (old new : Option (List ℕ)) (place : LinePlace) (size : ℕ) (held got after : List ℕ)
    → Consumes old new got → length held + length got ≤ size → length held < size → after ≡ held ++ got
    → Keeps (option_map (λ bs. (parts place (Hold size) held bs).passed) old) (passed_from place size after new)
takes_held old new place size held got after received h k e = rw e (takes_through old new got (λ bs. (parts place (Hold size) held bs).passed)
    (λ bs. (parts_from place size (held ++ got) bs).passed) received (λ ys. ap (λ (p : Parts). p.passed) (reported place size held got ys h k)))

pub takes_lines : (taken : Option (List (List ℕ))) (old new : Option (List ℕ)) (place : LinePlace) (size : ℕ) (held got after : List ℕ)
    → Consumes old new got → length held + length got ≤ size → length held < size → after ≡ held ++ got
    → SameKnown (all_lines taken (option_map (λ bs. (parts place (Hold size) held bs).lines) old)) (lines_from taken place size after new)
takes_lines taken old new place size held got after received h k e = rw e (lines_through taken old new got
    (λ bs. (parts place (Hold size) held bs).lines)
    (λ bs. (parts_from place size (held ++ got) bs).lines) received (λ ys. ap (λ (p : Parts). p.lines) (reported place size held got ys h k)))

pub end_through : (new : Option (List ℕ)) (f : List ℕ → List ℕ) → IsAtEnd new → f [] ≡ [] → IsAtEnd (option_map f new)
end_through None f h e = tt
end_through (Some ys) f h e = ap f h ∙ e

-- part of a payload is read
pub reads_payload : (old new : Option (List ℕ)) (place : LinePlace) (next : Next) (held buf rest : List ℕ) (left n : ℕ)
    → next ≡ Payload left → held ≡ [] → n ≤ length buf → length buf ≤ left → 0 < length buf → Consumes old new (take n buf)
    → (n ≡ 0 → 0 < length buf → IsAtEnd new)
    → Consumes (option_map (λ bs. (parts place next held bs).passed) old)
    (option_map (λ bs. (parts place (Payload (left - n)) held bs).passed) new) (take n (buf ++ rest))
    × (n ≡ 0 → 0 < length (buf ++ rest) → IsAtEnd (option_map (λ bs. (parts place (Payload (left - n)) held bs).passed) new))
reads_payload old new place next held buf rest left n is none fits bound some received at_end =
    let l : length (take n buf) ≡ n = length-take-le n buf fits in
    rw (is, none, take-append-le n buf rest fits) (
      consumes_through old new (take n buf) (take n buf) (λ bs. (parts place (Payload left) [] bs).passed)
          (λ bs. (parts place (Payload (left - n)) [] bs).passed) received
          (λ ys. ap (λ (p : Parts). p.passed) (payload_part place left (take n buf) ys (omega arith)
          ∙ ap (λ k. following (take n buf) [] (parts place (Payload (left - k)) [] ys)) l)),
      λ z _. end_through new (λ bs. (parts place (Payload (left - n)) [] bs).passed) (at_end z some) refl,
    )

pub reads_no_line : (taken : Option (List (List ℕ))) (old new : Option (List ℕ)) (place : LinePlace) (next : Next) (held got : List ℕ)
    (left n : ℕ) → next ≡ Payload left → held ≡ [] → length got ≡ n → n ≤ left → Consumes old new got
    → SameKnown (all_lines taken (option_map (λ bs. (parts place next held bs).lines) old))
    (all_lines taken (option_map (λ bs. (parts place (Payload (left - n)) held bs).lines) new))
reads_no_line taken old new place next held got left n is none len fits received =
    rw (is, none) (lines_through taken old new got (λ bs. (parts place (Payload left) [] bs).lines)
    (λ bs. (parts place (Payload (left - n)) [] bs).lines) received
    (λ ys. ap (λ (p : Parts). p.lines) (payload_part place left got ys (omega arith)
    ∙ ap (λ k. following got [] (parts place (Payload (left - k)) [] ys)) len)))

-- a held line is taken
pub took_whole : (o : Option (List ℕ)) (place : LinePlace) (size : ℕ) (held kept : List ℕ) (a : After) → size ≤ length held
    → a ≡ held_after place size held → kept ≡ take a.count held
    → option_map (λ bs. (parts a.place a.next kept bs).passed) o ≡ passed_from place size held o
took_whole None place size held kept a fits is k = refl
took_whole (Some bs) place size held kept a fits is k =
    let t : nat_lt (length held) size ≡ false = search rules in
    let w : After → Parts = λ x. parts x.place x.next (take x.count held) bs in
    rw t (ap Some (ap (λ ks. (parts a.place a.next ks bs).passed) k ∙ ap (λ x. (w x).passed) is))

pub took_lines : (taken then_taken : Option (List (List ℕ))) (o : Option (List ℕ)) (place : LinePlace) (size : ℕ) (held kept : List ℕ) (a : After)
    → TakesLines taken then_taken (lines_held place size held) → size ≤ length held → a ≡ held_after place size held
    → kept ≡ take a.count held
    → SameKnown (lines_from taken place size held o) (all_lines then_taken (option_map (λ bs. (parts a.place a.next kept bs).lines) o))
took_lines None then_taken o place size held kept a takes fits is k = tt
took_lines (Some t) then_taken None place size held kept a takes fits is k = tt
took_lines (Some t) None (Some bs) place size held kept a takes fits is k = absurd takes
took_lines (Some t) (Some u) (Some bs) place size held kept a takes fits is k =
    let f : nat_lt (length held) size ≡ false = search rules in
    let w : After → Parts = λ x. parts x.place x.next (take x.count held) bs in
    rw f (ap (λ ls. ls ++ (parts a.place a.next kept bs).lines) takes
    ∙ append_assoc t (lines_held place size held) (parts a.place a.next kept bs).lines
    ∙ ap (λ ls. t ++ (lines_held place size held ++ ls)) (ap (λ ks. (parts a.place a.next ks bs).lines) k ∙ ap (λ x. (w x).lines) is))

pub takes_none : (taken : Option (List (List ℕ))) → TakesLines taken taken []
takes_none None = tt
takes_none (Some t) = sym (append-nil t)

-- part of a line is held
pub took_part : (o : Option (List ℕ)) (place : LinePlace) (next : Next) (size : ℕ) (held kept : List ℕ) → length held < size
    → next ≡ Hold size → kept ≡ held
    → option_map (λ bs. (parts place next kept bs).passed) o ≡ passed_from place size held o
took_part None place next size held kept few is k = refl
took_part (Some bs) place next size held kept few is k =
    let t : nat_lt (length held) size ≡ true = search rules in rw (t, is, k) refl

pub took_no_line : (taken : Option (List (List ℕ))) (o : Option (List ℕ)) (place : LinePlace) (next : Next) (size : ℕ) (held kept : List ℕ)
    → length held < size → next ≡ Hold size → kept ≡ held
    → SameKnown (lines_from taken place size held o) (all_lines taken (option_map (λ bs. (parts place next kept bs).lines) o))
took_no_line None o place next size held kept few is k = tt
took_no_line (Some t) None place next size held kept few is k = tt
took_no_line (Some t) (Some bs) place next size held kept few is k =
    let f : nat_lt (length held) size ≡ true = search rules in rw (f, is, k) refl

pub payload_of : (size : ℕ) (room : List ℕ) → 4 ≤ size → take (size - 4) (drop 4 room) ≡ drop 4 (take size room)
payload_of size room h =
    let e : 4 + (size - 4) ≡ size = omega (arith, h) in sym (drop-take 4 (size - 4) room) ∙ ap (λ k. drop 4 (take k room)) e

pub line_is : (place : LinePlace) (size : ℕ) (held line : List ℕ) (f : Fate) (a : After) → 4 < size → length held ≡ size → line ≡ drop 4 held
    → f ≡ fate place line → a ≡ fate_after place f size → a ≡ held_after place size held
line_is place size held line f a some len is by after =
    let t : nat_eq size 4 ≡ false = ne_eqb size 4 (λ e. absurd (omega (arith, e, some))) in
    rw t (after ∙ ap (λ x. fate_after place x size) (by ∙ ap (fate place) is) ∙ ap (fate_after place (fate place (drop 4 held))) (sym len))

pub line_text : (place : LinePlace) (size : ℕ) (held line text : List ℕ) (f : Fate) (is_taken : Bool) → 4 < size → line ≡ drop 4 held
    → f ≡ fate place line → is_taken ≡ takes_uri place f → text ≡ text_of line
    → (if is_taken then text ∷ [] else []) ≡ lines_held place size held
line_text place size held line text f is_taken some is by taken reported =
    let t : nat_eq size 4 ≡ false = ne_eqb size 4 (λ e. absurd (omega (arith, e, some))) in
    let u : is_taken ≡ takes_uri place (fate place (drop 4 held)) = taken ∙ ap (takes_uri place) (by ∙ ap (fate place) is) in
    let v : text ≡ text_of (drop 4 held) = reported ∙ ap text_of is in
    rw (t, u, v) refl

-- the bytes read of a line follow the held ones
pub following_held : (old new : List ℕ) (start end n : ℕ) → start ≡ 0 → take end new ≡ take end old
    → take (end + n) new ≡ slice_range old start end ++ take n (drop end new)
following_held old new start end n first same =
    take-add end n new ∙ ap (λ xs. xs ++ take n (drop end new)) (same ∙ sym (first_range old start end first))

-- whether a line is invalid
pub gives_refusal : (o : Option (List ℕ)) (place : LinePlace) (next : Next) (held out later : List ℕ) → is_holding next ≡ false
    → held ≡ out ++ later
    → SameKnown (option_map (λ bs. (parts place next held bs).is_refused) o) (option_map (λ bs. (parts place next later bs).is_refused) o)
gives_refusal None place next held out later d e = tt
gives_refusal (Some bs) place next held out later d e =
    sym (ap (λ h. (parts place next h bs).is_refused) e ∙ ap (λ (p : Parts). p.is_refused) (known_front place next out later bs d))

pub takes_refusal : (old new : Option (List ℕ)) (place : LinePlace) (size : ℕ) (held got after : List ℕ)
    → Consumes old new got → length held + length got ≤ size → length held < size → after ≡ held ++ got
    → SameKnown (option_map (λ bs. (parts place (Hold size) held bs).is_refused) old) (refused_from place size after new)
takes_refusal old new place size held got after received h k e = rw e (known_through old new got
    (λ bs. (parts place (Hold size) held bs).is_refused)
    (λ bs. (parts_from place size (held ++ got) bs).is_refused) received (λ ys. ap (λ (p : Parts). p.is_refused) (reported place size held got ys h k)))

pub reads_refusal : (old new : Option (List ℕ)) (place : LinePlace) (next : Next) (held got : List ℕ)
    (left n : ℕ) → next ≡ Payload left → held ≡ [] → length got ≡ n → n ≤ left → Consumes old new got
    → SameKnown (option_map (λ bs. (parts place next held bs).is_refused) old)
    (option_map (λ bs. (parts place (Payload (left - n)) held bs).is_refused) new)
reads_refusal old new place next held got left n is none len fits received =
    rw (is, none) (known_through old new got (λ bs. (parts place (Payload left) [] bs).is_refused)
    (λ bs. (parts place (Payload (left - n)) [] bs).is_refused) received
    (λ ys. ap (λ (p : Parts). p.is_refused) (payload_part place left got ys (omega arith)
    ∙ ap (λ k. following got [] (parts place (Payload (left - k)) [] ys)) len)))

pub took_refusal : (o : Option (List ℕ)) (place : LinePlace) (size : ℕ) (held kept : List ℕ) (a : After) → size ≤ length held
    → a ≡ held_after place size held → kept ≡ take a.count held
    → option_map (λ bs. (parts a.place a.next kept bs).is_refused) o ≡ refused_from place size held o
took_refusal None place size held kept a fits is k = refl
took_refusal (Some bs) place size held kept a fits is k =
    let t : nat_lt (length held) size ≡ false = search rules in
    let w : After → Parts = λ x. parts x.place x.next (take x.count held) bs in
    rw t (ap Some (ap (λ ks. (parts a.place a.next ks bs).is_refused) k ∙ ap (λ x. (w x).is_refused) is))

pub took_part_refusal : (o : Option (List ℕ)) (place : LinePlace) (next : Next) (size : ℕ) (held kept : List ℕ) → length held < size
    → next ≡ Hold size → kept ≡ held
    → option_map (λ bs. (parts place next kept bs).is_refused) o ≡ refused_from place size held o
took_part_refusal None place next size held kept few is k = refl
took_part_refusal (Some bs) place next size held kept few is k =
    let t : nat_lt (length held) size ≡ true = search rules in rw (t, is, k) refl
