-- Parts of a buffer.
use Rattle.std.proofs.Common.{◌≡◌, ℕ, ◌+◌, ◌-◌, ◌<◌, ◌≤◌, List, ◌++◌, length, take, drop, refl, sym, ap, ◌∙◌, arith, Option, length-append, length-drop}
use Rattle.std.specs.Prelude.{slice_range}
use Rattle.std.proofs.lemmas.List.{drop-drop, drop-take, take-take, length-take-le}
use Rattle.std.proofs.lemmas.List.Edits.{take-paste}
use Rattle.std.proofs.Math.Seq.{take-add, paste}
use Rattle.std.specs.List.{copy_within}
use Rattle.std.specs.Io.KnownBytes.{Consumes, IsAtEnd}

length_range : (xs : List ℕ) (a b : ℕ) → b ≤ length xs → length (slice_range xs a b) ≡ b - a
length_range xs a b h = length-take-le (b - a) (drop a xs) (let e = length-drop a xs in omega arith)

pub drop-take_sub : (n m : ℕ) (xs : List ℕ) → n ≤ m → drop n (take m xs) ≡ take (m - n) (drop n xs)
drop-take_sub n m xs h =
    let e : m ≡ n + (m - n) = omega arith in
    ap (λ k. drop n (take k xs)) e ∙ drop-take n (m - n) xs

-- the rest of a part
pub range_skipped : (xs : List ℕ) (a b n : ℕ) → a ≤ b → b ≤ length xs → n ≤ length (slice_range xs a b)
    → slice_range xs (a + n) b ≡ drop n (slice_range xs a b)
range_skipped xs a b n ab bl h =
    let len = length_range xs a b bl in
    let le : n ≤ b - a = omega arith in
    let e : b - (a + n) ≡ b - a - n = omega arith in
    rw (e, ← drop-drop n a xs) (sym (drop-take_sub n (b - a) (drop a xs) le))

pub range_part : (xs : List ℕ) (a b from n : ℕ) → a ≤ b → b ≤ length xs → from ≤ n → n ≤ length (slice_range xs a b)
    → slice_range xs (a + from) (a + n) ≡ drop from (take n (slice_range xs a b))
range_part xs a b from n ab bl fn h =
    let len = length_range xs a b bl in
    let le : n ≤ b - a = omega arith in
    let e : a + n - (a + from) ≡ n - from = omega arith in
    rw (e, ← drop-drop from a xs, take-take n (b - a) (drop a xs) le) (sym (drop-take_sub from n (drop a xs) fn))

pub range_within : (xs : List ℕ) (a b n : ℕ) → b ≤ length xs → n ≤ length (slice_range xs a b) → n ≤ b - a
range_within xs a b n bl h = let len = length_range xs a b bl in omega arith

-- a copy to the front begins with the copied bytes
copied_front : (xs before : List ℕ) (a n : ℕ) → n ≤ length (drop a xs) → before ≡ copy_within xs a (a + n) 0
    → take n before ≡ take n (drop a xs)
copied_front xs before a n fits moved =
    let e : a + n - a ≡ n = omega arith in
    let same : before ≡ paste xs 0 (drop a xs) n = moved ∙ ap (paste xs 0 (drop a xs)) e in
    let none : 0 ≤ length xs = omega arith in
    let z : 0 + n ≡ n = omega arith in
    ap (take n) same ∙ ap (λ k. take k (paste xs 0 (drop a xs) n)) (sym z) ∙ take-paste xs 0 (drop a xs) n none fits

-- the bytes that a read put after the pending ones
pub received : (old new : Option (List ℕ)) (xs before after pending : List ℕ) (a b n : ℕ) → a ≤ b → b ≤ length xs → length after ≡ 65520
    → take (b - a) before ≡ slice_range xs a b → take (b - a) after ≡ take (b - a) before → pending ≡ slice_range xs a b
    → (b - a + n ≤ length after) → Consumes old new (take n (drop (b - a) after)) → (n ≡ 0 → b - a < length after → IsAtEnd new)
    → length pending < 65520
    → (got : List ℕ) × (slice_range after 0 (b - a + n) ≡ pending ++ got) × (length got ≡ n) × Consumes old new got
    × (n ≡ 0 → IsAtEnd new) × (length (slice_range after 0 (b - a + n)) ≤ 65520)
received old new xs before after pending a b n ab bl cap moved front is fits takes end room =
    let len : length pending ≡ b - a = ap length is ∙ length_range xs a b bl in
    let got = take n (drop (b - a) after) in
    let zero : b - a + n - 0 ≡ b - a + n = omega arith in
    let same : take (b - a) after ≡ pending = front ∙ moved ∙ sym is in
    let whole : slice_range after 0 (b - a + n) ≡ pending ++ got = rw zero (take-add (b - a) n after ∙ ap (λ l. l ++ got) same) in
    let count : length got ≡ n = length-take-le n (drop (b - a) after) (let e = length-drop (b - a) after in omega arith) in
    (got, whole, count, takes, λ z. end z (omega arith), (let e = ap length whole in let f = length-append pending got in omega arith))

-- the buffer begins with the part that was copied to the front
pub moved_front : (xs before : List ℕ) (a b : ℕ) → a ≤ b → b ≤ length xs → before ≡ copy_within xs a b 0
    → take (b - a) before ≡ slice_range xs a b
moved_front xs before a b ab bl moved =
    let le : b - a ≤ length (drop a xs) = let e = length-drop a xs in omega arith in
    let whole_part : b ≡ a + (b - a) = omega arith in
    copied_front xs before a (b - a) le (moved ∙ ap (λ k. copy_within xs a k 0) whole_part)

pub stands_front : (xs : List ℕ) (a b : ℕ) → a ≡ 0 → take (b - a) xs ≡ slice_range xs a b
stands_front xs a b e = rw e refl
