-- The bytes that are passed on when the bytes arrive in pieces.
use Rattle.std.proofs.Common.{◌≡◌, ℕ, zero, suc, ◌+◌, ◌-◌, ◌<◌, ◌≤◌, nat_lt, true, false, List, [], ◌∷◌, ◌++◌, length, take, drop, Option, Some, None, refl, ap, sym, ◌∙◌, arith, append_assoc, append-nil, length-append, length-drop, take-add, drop-drop, inl, inr, rules}
use Rattle.std.specs.Option.{option_map}
use Rattle.std.specs.Prelude.{slice_range}
use Rattle.std.proofs.lemmas.List.{take-append-le, length-take-le, drop-take}
use Rattle.std.specs.Io.KnownBytes.{Keeps, Consumes, IsAtEnd}
use Rattle.std.proofs.lemmas.Bool.{cases_lt}
use Rattle.gixp_plain_responses.specs.declared.place.Wanted.{Wanted}
use Rattle.gixp_plain_responses.specs.declared.place.Wanted.TheVariants.{Digits, Content}
use Rattle.gixp_plain_responses.specs.declared.place.Next.{Next}
use Rattle.gixp_plain_responses.specs.declared.place.Next.TheVariants.{Hold, Payload, Pack, Rest, Nothing}
use Rattle.gixp_plain_responses.specs.Order.{is_holding, size_wanted}
use Rattle.gixp_plain_responses.specs.Translation.{given, whole_from, translated_from}

pub not_less : (m n : ℕ) → n ≤ m → nat_lt m n ≡ false
not_less m n h = search rules

-- held bytes come first, unless they are held until they are whole
pub payload_front : (n : ℕ) (held ys : List ℕ) → given (Payload n) held ys ≡ held ++ given (Payload n) [] ys
payload_front n held [] = sym (append-nil held)
payload_front zero held (b ∷ ys) = refl
payload_front (suc n) held (b ∷ ys) = refl

pub pack_front : (held ys : List ℕ) → given Pack held ys ≡ held ++ given Pack [] ys
pack_front held [] = refl
pack_front held (b ∷ ys) = refl

pub known_front : (next : Next) (a b ys : List ℕ) → is_holding next ≡ false → given next (a ++ b) ys ≡ a ++ given next b ys
known_front (Hold wanted) a b ys h = cc
known_front (Payload n) a b ys h = payload_front n (a ++ b) ys
    ∙ (append_assoc a b (given (Payload n) [] ys) ∙ ap (λ xs. a ++ xs) (sym (payload_front n b ys)))
known_front Pack a b ys h = pack_front (a ++ b) ys
    ∙ (append_assoc a b (given Pack [] ys) ∙ ap (λ xs. a ++ xs) (sym (pack_front b ys)))
known_front Rest a b ys h = append_assoc a b ys
known_front Nothing a b ys h = refl

-- a payload is passed on unchanged
pub payload_part : (n : ℕ) (xs ys : List ℕ) → length xs ≤ n → given (Payload n) [] (xs ++ ys) ≡ xs ++ given (Payload (n - length xs)) [] ys
payload_part n [] ys h = let e : n ≡ n - 0 = omega arith in ap (λ k. given (Payload k) [] ys) e
payload_part zero (x ∷ xs) ys h = absurd (omega arith)
payload_part (suc n) (x ∷ xs) ys h =
    let e : n - length xs ≡ suc n - length (x ∷ xs) = omega arith in
    ap (λ zs. x ∷ zs) (payload_part n xs ys (omega arith))
    ∙ ap (λ k. x ∷ (xs ++ given (Payload k) [] ys)) e

-- a packet line after a payload
pub payload_over : (ys : List ℕ) → given (Payload 0) [] ys ≡ given (Hold Digits) [] ys
payload_over [] = refl
payload_over (b ∷ ys) = refl

-- content after a packet of band 1
pub pack_over : (ys : List ℕ) → given Pack [] ys ≡ given (Hold Content) [] ys
pack_over [] = refl
pack_over (b ∷ ys) = refl

-- while bytes are missing
missing : (w : Wanted) (held : List ℕ) (x : ℕ) (ys : List ℕ) → length held + 1 < size_wanted w
    → given (Hold w) held (x ∷ ys) ≡ given (Hold w) (held ++ x ∷ []) ys
missing w held x ys h = let t : nat_lt (length held + 1) (size_wanted w) ≡ true = search rules in rw t refl

complete : (w : Wanted) (held : List ℕ) (x : ℕ) (ys : List ℕ) → size_wanted w ≤ length held + 1
    → given (Hold w) held (x ∷ ys) ≡ whole_from w (held ++ x ∷ []) ys
complete w held x ys h = let t : nat_lt (length held + 1) (size_wanted w) ≡ false = search rules in rw t refl

pub held_part : (w : Wanted) (held xs ys : List ℕ) → length held + length xs < size_wanted w
    → given (Hold w) held (xs ++ ys) ≡ given (Hold w) (held ++ xs) ys
held_part w held [] ys h = ap (λ ds. given (Hold w) ds ys) (sym (append-nil held))
held_part w held (x ∷ xs) ys h = missing w held x (xs ++ ys) (omega arith)
    ∙ (held_part w (held ++ x ∷ []) xs ys (omega (arith, length-append held (x ∷ [])))
    ∙ ap (λ ds. given (Hold w) ds ys) (append_assoc held (x ∷ []) xs))

last_byte : (w : Wanted) (held : List ℕ) (x : ℕ) (xs ys : List ℕ) → size_wanted w ≤ length held + 1 → length xs ≡ 0
    → given (Hold w) held (x ∷ (xs ++ ys)) ≡ whole_from w (held ++ x ∷ xs) ys
last_byte w held x [] ys h k = complete w held x ys h
last_byte w held x (y ∷ xs) ys h k = absurd (omega arith)

pub held_whole : (w : Wanted) (held xs ys : List ℕ) → length held + length xs ≡ size_wanted w → length held < size_wanted w
    → given (Hold w) held (xs ++ ys) ≡ whole_from w (held ++ xs) ys
held_whole w held [] ys h k = absurd (omega arith)
held_whole w held (x ∷ xs) ys h k = elim (cases_lt (length held + 1) (size_wanted w)) [
  | inl lt ↦ missing w held x (xs ++ ys) lt
      ∙ (held_whole w (held ++ x ∷ []) xs ys (omega (arith, length-append held (x ∷ [])))
      (omega (arith, length-append held (x ∷ [])))
      ∙ ap (λ ds. whole_from w ds ys) (append_assoc held (x ∷ []) xs))
  | inr ge ↦ last_byte w held x xs ys ge (omega arith)
]

-- bytes that arrived
pub arrived : (w : Wanted) (held xs ys : List ℕ) → length held + length xs ≤ size_wanted w → length held < size_wanted w
    → given (Hold w) held (xs ++ ys) ≡ translated_from w (held ++ xs) ys
arrived w held xs ys h k = elim (cases_lt (length (held ++ xs)) (size_wanted w)) [
  | inl lt ↦ let t : nat_lt (length (held ++ xs)) (size_wanted w) ≡ true = search rules in
      rw t (held_part w held xs ys (omega (arith, length-append held xs)))
  | inr ge ↦ let t : nat_lt (length (held ++ xs)) (size_wanted w) ≡ false = search rules in
      rw t (held_whole w held xs ys (omega (arith, length-append held xs)) k)
]

-- known bytes, through a function
pub consumes_through : (old new : Option (List ℕ)) (bytes out : List ℕ) (f g : List ℕ → List ℕ)
    → Consumes old new bytes → ((ys : List ℕ) → f (bytes ++ ys) ≡ out ++ g ys) → Consumes (option_map f old) (option_map g new) out
consumes_through None new bytes out f g h e = tt
consumes_through (Some xs) None bytes out f g h e = absurd h
consumes_through (Some xs) (Some ys) bytes out f g h e = ap f h ∙ e ys

pub keeps_through : (old new : Option (List ℕ)) (bytes : List ℕ) (f g : List ℕ → List ℕ)
    → Consumes old new bytes → ((ys : List ℕ) → f (bytes ++ ys) ≡ g ys) → Keeps (option_map f old) (option_map g new)
keeps_through None new bytes f g h e = tt
keeps_through (Some xs) None bytes f g h e = absurd h
keeps_through (Some xs) (Some ys) bytes f g h e = sym (ap f h ∙ e ys)

pub end_through : (new : Option (List ℕ)) (f : List ℕ → List ℕ) → IsAtEnd new → f [] ≡ [] → IsAtEnd (option_map f new)
end_through None f h e = tt
end_through (Some ys) f h e = ap f h ∙ e

pub ends_through : (o : Option (List ℕ)) (f g : List ℕ → List ℕ) → IsAtEnd o → f [] ≡ g [] → Keeps (option_map f o) (option_map g o)
ends_through None f g h e = tt
ends_through (Some ys) f g h e = sym (ap f h ∙ e ∙ sym (ap g h))

pub mapped : (o : Option (List ℕ)) (f g : List ℕ → List ℕ) → ((ys : List ℕ) → f ys ≡ g ys) → option_map f o ≡ option_map g o
mapped None f g e = refl
mapped (Some ys) f g e = ap Some (e ys)

pub no_range : (ds : List ℕ) (start end : ℕ) → end ≤ start → slice_range ds start end ≡ []
no_range ds start end h = let e : end - start ≡ 0 = omega arith in ap (λ k. take k (drop start ds)) e

pub range_length : (ds : List ℕ) (start n : ℕ) → start + n ≤ length ds → length (slice_range ds start (start + n)) ≡ n
range_length ds start n h =
    let e : (start + n) - start ≡ n = omega arith in
    ap (λ k. length (take k (drop start ds))) e ∙ length-take-le n (drop start ds) (omega (arith, length-drop start ds))

pub length-range : (ds : List ℕ) (start end : ℕ) → start ≤ end → end ≤ length ds → length (slice_range ds start end) ≡ end - start
length-range ds start end h k = length-take-le (end - start) (drop start ds) (omega (arith, length-drop start ds))

-- the first of the held bytes are passed on
pub range_parts : (ds : List ℕ) (start n end : ℕ) → start + n ≤ end
    → slice_range ds start end ≡ slice_range ds start (start + n) ++ slice_range ds (start + n) end
range_parts ds start n end h =
    let e : end - start ≡ n + (end - (start + n)) = omega arith in
    let f : n ≡ (start + n) - start = omega arith in
    ap (λ k. take k (drop start ds)) e
    ∙ (take-add n (end - (start + n)) (drop start ds)
    ∙ (ap (λ xs. take n (drop start ds) ++ take (end - (start + n)) xs) (drop-drop n start ds)
    ∙ ap (λ k. take k (drop start ds) ++ take (end - (start + n)) (drop (start + n) ds)) f))

-- held bytes are passed on
pub gives_held : (o : Option (List ℕ)) (next : Next) (held out later : List ℕ) → is_holding next ≡ false → held ≡ out ++ later
    → Consumes (option_map (given next held) o) (option_map (given next later) o) out
gives_held None next held out later d e = tt
gives_held (Some bs) next held out later d e = ap (λ h. given next h bs) e ∙ known_front next out later bs d

-- wanted bytes are read
pub takes_held : (old new : Option (List ℕ)) (w : Wanted) (held got after : List ℕ) → Consumes old new got
    → length held + length got ≤ size_wanted w → length held < size_wanted w → after ≡ held ++ got
    → Keeps (option_map (given (Hold w) held) old) (option_map (translated_from w after) new)
takes_held old new w held got after received h k e = rw e (keeps_through old new got (given (Hold w) held) (translated_from w (held ++ got))
    received (λ ys. arrived w held got ys h k))

-- part of a payload is read
pub reads_payload : (old new : Option (List ℕ)) (next : Next) (held buf rest : List ℕ) (left n : ℕ)
    → next ≡ Payload left → held ≡ [] → n ≤ length buf → length buf ≤ left → 0 < length buf → Consumes old new (take n buf)
    → (n ≡ 0 → 0 < length buf → IsAtEnd new)
    → Consumes (option_map (given next held) old) (option_map (given (Payload (left - n)) held) new) (take n (buf ++ rest))
    × (n ≡ 0 → 0 < length (buf ++ rest) → IsAtEnd (option_map (given (Payload (left - n)) held) new))
reads_payload old new next held buf rest left n is none fits bound some received at_end =
    let l : length (take n buf) ≡ n = length-take-le n buf fits in
    rw (is, none, take-append-le n buf rest fits) (
      consumes_through old new (take n buf) (take n buf) (given (Payload left) []) (given (Payload (left - n)) []) received
          (λ ys. payload_part left (take n buf) ys (omega arith) ∙ ap (λ k. take n buf ++ given (Payload (left - k)) [] ys) l),
      λ z _. end_through new (given (Payload (left - n)) []) (at_end z some) refl,
    )

-- the wanted bytes are whole
pub took_whole : (o : Option (List ℕ)) (w : Wanted) (held : List ℕ) → size_wanted w ≤ length held
    → option_map (whole_from w held) o ≡ option_map (translated_from w held) o
took_whole o w held fits =
    let t : nat_lt (length held) (size_wanted w) ≡ false = search rules in
    mapped o (whole_from w held) (translated_from w held) (λ ys. rw t refl)

-- bytes are still missing
pub took_part : (o : Option (List ℕ)) (w : Wanted) (next : Next) (held kept : List ℕ) → length held < size_wanted w → next ≡ Hold w
    → kept ≡ held → option_map (given next kept) o ≡ option_map (translated_from w held) o
took_part o w next held kept few is k =
    let t : nat_lt (length held) (size_wanted w) ≡ true = search rules in
    mapped o (given next kept) (translated_from w held) (λ ys. rw (t, is, k) refl)

range_of : (xs : List ℕ) (start end : ℕ) → start ≤ end → drop start (take end xs) ≡ slice_range xs start end
range_of xs start end order =
    let e : end ≡ start + (end - start) = omega arith in
    ap (λ m. drop start (take m xs)) e ∙ drop-take start (end - start) xs

-- bytes that were read follow the held ones
pub after_held : (old new : List ℕ) (start end n : ℕ) → start ≤ end → take end new ≡ take end old
    → slice_range new start (end + n) ≡ slice_range old start end ++ take n (drop end new)
after_held old new start end n order same =
    let k = end - start in
    let e : start + k ≡ end = omega arith in
    let f : (end + n) - end ≡ n = omega arith in
    let front : slice_range new start end ≡ slice_range old start end =
    sym (range_of new start end order) ∙ ap (drop start) same ∙ range_of old start end order in
    range_parts new start k (end + n) (omega arith) ∙ ap (λ m. slice_range new start m ++ slice_range new m (end + n)) e
    ∙ ap (λ xs. xs ++ slice_range new end (end + n)) front ∙ ap (λ m. slice_range old start end ++ take m (drop end new)) f

pub first_range : (ds : List ℕ) (start end : ℕ) → start ≡ 0 → slice_range ds start end ≡ take end ds
first_range ds start end h = let e : end - start ≡ end = omega arith in
    ap (λ k. take k (drop start ds)) e ∙ ap (λ k. take end (drop k ds)) h

pub front_same : (old new : List ℕ) (start end : ℕ) → start ≤ end → take end new ≡ take end old
    → slice_range new start end ≡ slice_range old start end
front_same old new start end order same =
    sym (range_of new start end order) ∙ ap (drop start) same ∙ range_of old start end order
