-- Advertisements of which a part was read.
use Rattle.std.proofs.Common.{◌≡◌, ℕ, ◌+◌, ◌-◌, ◌<◌, ◌≤◌, ◌⊎◌, nat_lt, Bool, true, false, not, ◌&&◌, if◌then◌else◌, List, [], ◌++◌, length, take, drop, Option, Some, None, Result, Ok, Err, subst, refl, ap, sym, ◌∙◌, arith, rules, append_assoc, append-nil, length-append, length-drop, take-add, drop-drop, inl, inr}
use Rattle.std.specs.Prelude.{slice_range}
use Rattle.std.specs.Option.{option_map}
use Rattle.std.specs.Io.KnownBytes.{Keeps, Consumes, ReadConsumes, IsAtEnd}
use Rattle.std.proofs.lemmas.List.{take-append-le, drop-append-le, length-take-le, drop-take}
use Rattle.std.proofs.lemmas.Bool.{cases_lt}
use Rattle.gixp_packetline.specs.Frames.{size_of}
use Rattle.gixp_packetline.specs.FrameText.{payload_text}
use Rattle.gixp_plain_requests.specs.Lacks.{lacks_nothing}
use Rattle.gixp_plain_requests.specs.Advertisement.{named_line, lacks_in, size_by, line_size, is_whole, first_text, is_version_1, version_size, has_line, lacks_first, named_first, with_names, advertised, size_needed, passed_on}

not_less : (m n : ℕ) → n ≤ m → nat_lt m n ≡ false
not_less m n h = search rules

less : (m n : ℕ) → m < n → nat_lt m n ≡ true
less m n h = search rules

-- the first packet line

size_least_by : (o : Option ℕ) → 4 ≤ size_by o
size_least_by None = omega arith
size_least_by (Some n) = by (nat_lt 65520 n) (cases_lt n 4)
  where
    by : (b : Bool) → (n < 4) ⊎ (4 ≤ n) → 4 ≤ (if b then 4 else if nat_lt n 4 then 4 else n)
    by true h = omega arith
    by false (inl lt) = rw (less n 4 lt) (omega arith)
    by false (inr ge) = rw (not_less n 4 ge) ge

size_least : (bytes : List ℕ) → 4 ≤ line_size bytes
size_least bytes = by (nat_lt (length bytes) 4)
  where
    by : (b : Bool) → 4 ≤ (if b then 4 else size_by (size_of (take 4 bytes)))
    by true = omega arith
    by false = size_least_by (size_of (take 4 bytes))

size_same : (held rest : List ℕ) → 4 ≤ length held → line_size (held ++ rest) ≡ line_size held
size_same held rest h =
    let a : nat_lt (length (held ++ rest)) 4 ≡ false = not_less (length (held ++ rest)) 4 (omega (arith, length-append held rest)) in
    let b : nat_lt (length held) 4 ≡ false = not_less (length held) 4 h in
    rw (a, b) (ap (λ ds. size_by (size_of ds)) (take-append-le 4 held rest h))

whole_is : (bytes : List ℕ) → line_size bytes ≤ length bytes → is_whole bytes ≡ true
whole_is bytes h = ap not (not_less (length bytes) (line_size bytes) h)

whole_same : (held rest : List ℕ) → line_size held ≤ length held → is_whole (held ++ rest) ≡ is_whole held
whole_same held rest h =
    let same = size_same held rest (omega (arith, size_least held)) in
    whole_is (held ++ rest) (omega (arith, same, length-append held rest)) ∙ sym (whole_is held h)

text_same : (held rest : List ℕ) → line_size held ≤ length held → first_text (held ++ rest) ≡ first_text held
text_same held rest h = ap (λ n. take n (held ++ rest)) (size_same held rest (omega (arith, size_least held)))
    ∙ take-append-le (line_size held) held rest h

-- the packet line at the front with the missing names, by whether it has a payload
abbrev named_by : Bool → List ℕ → List ℕ
named_by b text = if b then payload_text (named_line (if b then lacks_in (drop 4 text) else lacks_nothing) (drop 4 text)) else text

range_of : (xs : List ℕ) (start end : ℕ) → start ≤ end → drop start (take end xs) ≡ slice_range xs start end
range_of xs start end order =
    let e : end ≡ start + (end - start) = omega arith in
    ap (λ m. drop start (take m xs)) e ∙ drop-take start (end - start) xs

pub line_is : (bytes : List ℕ) (size : ℕ) → size ≡ line_size bytes → 4 < size → drop 4 (first_text bytes) ≡ slice_range bytes 4 size
line_is bytes size is some = ap (λ n. drop 4 (take n bytes)) (sym is) ∙ range_of bytes 4 size (omega arith)

has_is : (bytes : List ℕ) (size : ℕ) → size ≡ line_size bytes → size ≤ length bytes → 4 < size → has_line bytes ≡ true
has_is bytes size is there some =
    ap (λ b. b && nat_lt 4 (line_size bytes)) (whole_is bytes (omega (arith, is))) ∙ less 4 (line_size bytes) (omega (arith, is))

-- a whole packet line with a payload
pub lacks_is : (bytes : List ℕ) (size : ℕ) → size ≡ line_size bytes → size ≤ length bytes → 4 < size
    → lacks_first bytes ≡ lacks_in (slice_range bytes 4 size)
lacks_is bytes size is there some =
    ap (λ b. if b then lacks_in (drop 4 (first_text bytes)) else lacks_nothing) (has_is bytes size is there some)
    ∙ ap lacks_in (line_is bytes size is some)

pub names_are : (bytes : List ℕ) (size : ℕ) → size ≡ line_size bytes → size ≤ length bytes → 4 < size
    → payload_text (named_line (lacks_in (slice_range bytes 4 size)) (slice_range bytes 4 size)) ++ drop size bytes ≡ with_names bytes
names_are bytes size is there some =
    let line = slice_range bytes 4 size in
    let named : named_first bytes ≡ payload_text (named_line (lacks_in line) line) =
    ap (λ b. named_by b (first_text bytes)) (has_is bytes size is there some)
    ∙ ap (λ l. payload_text (named_line (lacks_in l) l)) (line_is bytes size is some) in
    ap (λ xs. xs ++ drop size bytes) (sym named) ∙ ap (λ n. named_first bytes ++ drop n bytes) is

with_more : (held rest : List ℕ) → line_size held ≤ length held → with_names (held ++ rest) ≡ with_names held ++ rest
with_more held rest h =
    let size = size_same held rest (omega (arith, size_least held)) in
    let has : has_line (held ++ rest) ≡ has_line held =
    ap (λ b. b && nat_lt 4 (line_size (held ++ rest))) (whole_same held rest h) ∙ ap (λ n. is_whole held && nat_lt 4 n) size in
    let first : named_first (held ++ rest) ≡ named_first held =
    ap (λ b. named_by b (first_text (held ++ rest))) has ∙ ap (named_by (has_line held)) (text_same held rest h) in
    let after : drop (line_size (held ++ rest)) (held ++ rest) ≡ drop (line_size held) held ++ rest =
    ap (λ n. drop n (held ++ rest)) size ∙ drop-append-le (line_size held) held rest h in
    ap (λ xs. xs ++ drop (line_size (held ++ rest)) (held ++ rest)) first ∙ ap (λ xs. named_first held ++ xs) after
    ∙ sym (append_assoc (named_first held) (drop (line_size held) held) rest)

-- the line `version 1`

whole_le : (bytes : List ℕ) → is_whole bytes ≡ true → line_size bytes ≤ length bytes
whole_le bytes h = elim (cases_lt (length bytes) (line_size bytes)) [
  | inl lt ↦ let t : is_whole bytes ≡ false = ap not (less (length bytes) (line_size bytes) lt) in cc
  | inr ge ↦ ge
]

version_by : (bytes : List ℕ) (b c : Bool) → is_whole bytes ≡ b → (if b && c then line_size bytes else 0) ≤ length bytes
version_by bytes true true h = whole_le bytes h
version_by bytes true false h = omega arith
version_by bytes false c h = omega arith

version_le : (bytes : List ℕ) → version_size bytes ≤ length bytes
version_le bytes = version_by bytes (is_whole bytes) (is_version_1 (first_text bytes)) refl

-- the first packet line is whole before the names can be added
first_whole : (held : List ℕ) → size_needed held ≤ length held → line_size held ≤ length held
first_whole held h = by (is_whole held) refl
  where
    by : (b : Bool) → is_whole held ≡ b → line_size held ≤ length held
    by true e = whole_le held e
    by false e =
        let none : version_size held ≡ 0 = ap (λ b. if b && is_version_1 (first_text held) then line_size held else 0) e in
        omega (arith, h, none, ap (λ n. line_size (drop n held)) none)

version_same : (held rest : List ℕ) → line_size held ≤ length held → version_size (held ++ rest) ≡ version_size held
version_same held rest h =
    ap (λ b. if b && is_version_1 (first_text (held ++ rest)) then line_size (held ++ rest) else 0) (whole_same held rest h)
    ∙ ap (λ t. if is_whole held && is_version_1 t then line_size (held ++ rest) else 0) (text_same held rest h)
    ∙ ap (λ n. if is_whole held && is_version_1 (first_text held) then n else 0) (size_same held rest (omega (arith, size_least held)))

-- what follows the first lines is passed on unchanged
advertised_more : (held rest : List ℕ) → size_needed held ≤ length held → advertised (held ++ rest) ≡ advertised held ++ rest
advertised_more held rest h =
    let whole = first_whole held h in
    let v = version_size held in
    let le = version_le held in
    let same : version_size (held ++ rest) ≡ v = version_same held rest whole in
    let back : drop (version_size (held ++ rest)) (held ++ rest) ≡ drop v held ++ rest =
    ap (λ n. drop n (held ++ rest)) same ∙ drop-append-le v held rest le in
    let front : take (version_size (held ++ rest)) (held ++ rest) ≡ take v held =
    ap (λ n. take n (held ++ rest)) same ∙ take-append-le v held rest le in
    ap (λ xs. xs ++ with_names (drop (version_size (held ++ rest)) (held ++ rest))) front
    ∙ ap (λ xs. take v held ++ with_names xs) back
    ∙ ap (λ xs. take v held ++ xs) (with_more (drop v held) rest (omega (arith, h, length-drop v held)))
    ∙ sym (append_assoc (take v held) (with_names (drop v held)) rest)

-- the bytes that a reader has still to pass on

pub names_added : (o : Option (List ℕ)) (held named : List ℕ) → named ≡ advertised held
    → (size_needed held ≤ length held) ⊎ IsAtEnd o → Keeps (option_map (passed_on false held) o) (option_map (passed_on true named) o)
names_added None held named is h = tt
names_added (Some xs) held named is (inl h) = ap (λ ns. ns ++ xs) is ∙ sym (advertised_more held xs h)
names_added (Some xs) held named is (inr e) =
    ap (λ ns. named ++ ns) e ∙ append-nil named ∙ is ∙ ap advertised (sym (append-nil held) ∙ ap (λ ns. held ++ ns) (sym e))

pub more_read : (old new : Option (List ℕ)) (held got after : List ℕ) → Consumes old new got → after ≡ held ++ got
    → Keeps (option_map (passed_on false held) old) (option_map (passed_on false after) new)
more_read None new held got after h is = tt
more_read (Some xs) None held got after h is = absurd h
more_read (Some xs) (Some ys) held got after h is =
    ap (λ zs. advertised (zs ++ ys)) is ∙ ap advertised (append_assoc held got ys ∙ ap (λ zs. held ++ zs) (sym h))

pub none_read : (old new : Option (List ℕ)) (held after : List ℕ) → Keeps old new → after ≡ held
    → Keeps (option_map (passed_on false held) old) (option_map (passed_on false after) new)
none_read None new held after h is = tt
none_read (Some xs) None held after h is = absurd h
none_read (Some xs) (Some ys) held after h is = ap (λ zs. advertised (zs ++ ys)) is ∙ ap (λ zs. advertised (held ++ zs)) h

pub gives_named : (o : Option (List ℕ)) (held out later : List ℕ) → held ≡ out ++ later
    → Consumes (option_map (passed_on true held) o) (option_map (passed_on true later) o) out
gives_named None held out later e = tt
gives_named (Some bs) held out later e = ap (λ h. h ++ bs) e ∙ append_assoc out later bs

pub keeps_both : (old mid new : Option (List ℕ)) → Keeps old mid → Keeps mid new → Keeps old new
keeps_both None mid new h k = tt
keeps_both (Some xs) None new h k = absurd h
keeps_both (Some xs) (Some ys) None h k = absurd k
keeps_both (Some xs) (Some ys) (Some zs) h k = k ∙ h

named_all : (o : Option (List ℕ)) → option_map (passed_on true []) o ≡ o
named_all None = refl
named_all (Some bs) = refl

pub reads_on : {E : Type 0} (old new : Option (List ℕ)) (r : Result ℕ E) (held buf : List ℕ) → held ≡ [] → ReadConsumes old new r buf
    → ReadConsumes (option_map (passed_on true held) old) (option_map (passed_on true held) new) r buf
reads_on old new r held buf none h = rw (none, named_all old, named_all new) h

pub reads_later : {E : Type 0} (old mid new : Option (List ℕ)) (r : Result ℕ E) (buf : List ℕ) → Keeps old mid → ReadConsumes mid new r buf
    → ReadConsumes old new r buf
reads_later None None new r buf k h = h
reads_later None (Some bs) new (Ok n) buf k h = (tt, h.1)
reads_later None (Some bs) new (Err e) buf k h = tt
reads_later (Some xs) None new r buf k h = absurd k
reads_later (Some xs) (Some ys) new r buf k h = subst (λ zs. ReadConsumes (Some zs) new r buf) k h

-- parts of a buffer

pub no_range : (ds : List ℕ) (start end : ℕ) → end ≤ start → slice_range ds start end ≡ []
no_range ds start end h = let e : end - start ≡ 0 = omega arith in ap (λ k. take k (drop start ds)) e

pub from_start : (xs : List ℕ) (end : ℕ) → slice_range xs 0 end ≡ take end xs
from_start xs end = let e : end - 0 ≡ end = omega arith in ap (λ k. take k xs) e

pub range_length : (ds : List ℕ) (start n : ℕ) → start + n ≤ length ds → length (slice_range ds start (start + n)) ≡ n
range_length ds start n h =
    let e : (start + n) - start ≡ n = omega arith in
    ap (λ k. length (take k (drop start ds))) e ∙ length-take-le n (drop start ds) (omega (arith, length-drop start ds))

pub range_parts : (ds : List ℕ) (start n end : ℕ) → start + n ≤ end
    → slice_range ds start end ≡ slice_range ds start (start + n) ++ slice_range ds (start + n) end
range_parts ds start n end h =
    let e : end - start ≡ n + (end - (start + n)) = omega arith in
    let f : n ≡ (start + n) - start = omega arith in
    ap (λ k. take k (drop start ds)) e
    ∙ (take-add n (end - (start + n)) (drop start ds)
    ∙ (ap (λ xs. take n (drop start ds) ++ take (end - (start + n)) xs) (drop-drop n start ds)
    ∙ ap (λ k. take k (drop start ds) ++ take (end - (start + n)) (drop (start + n) ds)) f))

front_same : (old new : List ℕ) (start end : ℕ) → start ≤ end → take end new ≡ take end old
    → slice_range new start end ≡ slice_range old start end
front_same old new start end order same =
    sym (range_of new start end order) ∙ ap (drop start) same ∙ range_of old start end order

-- bytes that were read follow the held ones
pub after_held : (old new : List ℕ) (start end n : ℕ) → start ≤ end → take end new ≡ take end old
    → slice_range new start (end + n) ≡ slice_range old start end ++ take n (drop end new)
after_held old new start end n order same =
    let k = end - start in
    let e : start + k ≡ end = omega arith in
    let f : (end + n) - end ≡ n = omega arith in
    range_parts new start k (end + n) (omega arith) ∙ ap (λ m. slice_range new start m ++ slice_range new m (end + n)) e
    ∙ ap (λ xs. xs ++ take ((end + n) - end) (drop end new)) (front_same old new start end order same)
    ∙ ap (λ m. slice_range old start end ++ take m (drop end new)) f
