-- The text of a boundary reads as the ids that it was written from.
use Rattle.std.proofs.Common.{◌≡◌, ℕ, ◌/◌, ◌%◌, ◌<◌, ◌⊎◌, inl, inr, suc, Bool, true, false, true≢false, List, [], ◌∷◌, ◌++◌, length, Some, None, refl, sym, ap, ◌∙◌, subst, arith}
use Rattle.std.specs.Prelude.{◌↔◌, ◌==◌, if◌then◌else◌, IsSome, Option}
use Rattle.std.specs.Result.{result_ok}
use Rattle.std.specs.List.{All, AllZip, AllByRecursion, Contains}
use Rattle.std.specs.List.Sorted.{IsStrictlySortedBy}
use Rattle.std.specs.declared.cmp.Ordering.TheVariants.{Less, Greater}
use Rattle.std.specs.Ordering.{ordering_reverse}
use Rattle.std.proofs.lemmas.Bool.Decides.{nat_tests}
use Rattle.hex.specs.Hex.{lower_digits, hex_digit_value, encode_with, encode_lower, decode_of, IsBytes}
use Rattle.hex.proofs.HexLemmas.{length-encode_with, IsDigits-lower_digits, decode_of-encode_lower}
use Rattle.gixp_hash.specs.ObjectId.{id_of, id_cmp}
use Rattle.gixp_hash.specs.declared.object_id.ObjectId.{ObjectId}
use Rattle.gixp_hash.specs.IdLaws.{ids_total}
use Rattle.gixp_shallow.specs.declared.store.ShallowError.{ShallowError}
use Rattle.gixp_shallow.specs.declared.store.ShallowError.TheVariants.{Io, Locked, Decode, Memory}
use Rattle.gixp_shallow.specs.Boundary.{IsSetOf}
use Rattle.gixp_shallow.specs.ShallowText.{text_of, IsTextOf, lines, in_first, IsIdOf, ReadsIds, IdTextFails, IsId}
use Rattle.gixp_shallow.proofs.SetLemmas.{no_member, first_member, later_member, member_cases}

-- ---- a line

-- no digit is an LF
digit_no_end : (c d : ℕ) → hex_digit_value c ≡ Some d → (c == 10) ≡ false
digit_no_end c d e = at (c == 10) refl
  where
    at : (b : Bool) → (c == 10) ≡ b → b ≡ false
    at false t = refl
    at true t = let same : c ≡ 10 = grind (arith, nat_tests) in absurd (none d (sym (ap hex_digit_value same) ∙ e))
      where
        none : (d : ℕ) → None ≡ Some d → ⊥
        none d h = cc

no_ends : (bytes : List ℕ) → IsBytes bytes → AllByRecursion (λ c. (c == 10) ≡ false) (encode_with lower_digits bytes)
unfolding encode_with
no_ends [] h = tt
no_ends (b ∷ rest) h =
    let fits : b < 256 = h 0 in
    let high : b / 16 < 16 = omega arith in
    let low : b % 16 < 16 = omega arith in (
      digit_no_end _ _ (IsDigits-lower_digits (b / 16) high),
      (digit_no_end _ _ (IsDigits-lower_digits (b % 16) low), no_ends rest (λ k. h (suc k))),
    )

one_line : (line rest : List ℕ) → AllByRecursion (λ c. (c == 10) ≡ false) line → lines (line ++ 10 ∷ rest) ≡ line ∷ lines rest
one_line [] rest h = refl
one_line (c ∷ cs) rest h = at (c == 10) h.0 (one_line cs rest h.1)
  where
    at : (b : Bool) → b ≡ false → lines (cs ++ 10 ∷ rest) ≡ cs ∷ lines rest
        → (if b then [] ∷ lines (cs ++ 10 ∷ rest) else in_first c (lines (cs ++ 10 ∷ rest))) ≡ (c ∷ cs) ∷ lines rest
    at true f e = absurd (true≢false f)
    at false f e = ap (in_first c) e

-- the digits of an id read as this id
id_back : (id : ObjectId) → IsId id → id_of (encode_lower id.bytes) ≡ Some id.bytes
id_back id h =
    let whole : length (encode_lower id.bytes) ≡ 40 = omega (arith, length-encode_with lower_digits id.bytes, h.0) in
    ap (λ n. if n == 40 then result_ok (decode_of (encode_lower id.bytes)) else None) whole
    ∙ ap result_ok (decode_of-encode_lower id.bytes h.1)

first_back : (id : ObjectId) (ids : List ObjectId) → IsId id → lines (text_of (id ∷ ids)) ≡ encode_lower id.bytes ∷ lines (text_of ids)
first_back id ids h = one_line (encode_lower id.bytes) (text_of ids) (no_ends id.bytes h.1)

abbrev of_bytes : List ℕ → ObjectId
of_bytes bytes = record { bytes = bytes }

same_id : (a b : ObjectId) → Some a.bytes ≡ Some b.bytes → b ≡ a
same_id a b e = let bytes : a.bytes ≡ b.bytes = cc in sym (ap of_bytes bytes)

-- the lines of a text read as the ids that it was written from
each_back : (set ids : List ObjectId) → AllByRecursion IsId set → AllZip IsIdOf (lines (text_of set)) ids → ids ≡ set
each_back [] [] good h = refl
each_back [] (x ∷ xs) good h = absurd h
each_back (s ∷ ss) ids good h = at ids (λ xs. each_back ss xs good.1) (subst (λ ls. AllZip IsIdOf ls ids) (first_back s ss good.0) h)
  where
    at : (ids : List ObjectId) → ((xs : List ObjectId) → AllZip IsIdOf (lines (text_of ss)) xs → xs ≡ ss)
        → AllZip IsIdOf (encode_lower s.bytes ∷ lines (text_of ss)) ids → ids ≡ s ∷ ss
    at [] more h = absurd h
    at (x ∷ xs) more h = let one : x ≡ s = same_id s x (sym (id_back s good.0) ∙ h.0) in let rest : xs ≡ ss = more xs h.1 in cc

are_lines : (set : List ObjectId) → AllByRecursion IsId set → AllByRecursion (λ l. IsSome (id_of l)) (lines (text_of set))
are_lines [] good = tt
are_lines (s ∷ ss) good =
    subst (AllByRecursion (λ l. IsSome (id_of l))) (sym (first_back s ss good.0))
    (subst IsSome (sym (id_back s good.0)) refl, are_lines ss good.1)

one_of : (P : List ℕ → Type 0) (before : List (List ℕ)) (line : List ℕ) (following : List (List ℕ))
    → AllByRecursion P (before ++ line ∷ following) → P line
one_of P [] line following h = h.0
one_of P (l ∷ ls) line following h = one_of P ls line following h.1

-- ---- sets

all_of : (P : ObjectId → Type 0) (set : List ObjectId) → ((id : ObjectId) → Contains set id → P id) → AllByRecursion P set
all_of P [] f = tt
all_of P (x ∷ xs) f = (f x (first_member x xs x refl), all_of P xs (λ q h. f q (later_member x xs q h)))

-- the elements of a set of ids are ids
are_ids : (ids set : List ObjectId) → All IsId ids → IsSetOf ids set → AllByRecursion IsId set
are_ids ids set a h = all_of IsId set (λ id m. let n = (h.same id).0 m in subst IsId n.2 (a n.0 id n.1))

pub read_back : (ids : List ObjectId) (text : List ℕ) (read : List ObjectId) → All IsId ids → IsTextOf ids text → ReadsIds text read
    → IsSetOf ids read
read_back ids text read a t r =
    let found : r.ids ≡ t.set =
    each_back t.set r.ids (are_ids ids t.set a t.is_set) (subst (λ x. AllZip IsIdOf (lines x) r.ids) t.is_text r.each) in
    let set : IsSetOf t.set read = subst (λ x. IsSetOf x read) found r.is_set in
    record {
      ordered = set.ordered;
      same = λ id. (λ h. (t.is_set.same id).0 ((set.same id).0 h), λ h. (set.same id).1 ((t.is_set.same id).1 h));
    }

no_id : (o : Option (List ℕ)) → o ≡ None → IsSome o → ⊥
no_id None e h = true≢false (sym h)
no_id (Some x) e h = cc

pub never_refused : (ids : List ObjectId) (text : List ℕ) (e : ShallowError) → All IsId ids → IsTextOf ids text → IdTextFails text e
    → e ≡ Memory
never_refused ids text (Decode found) a t h =
    let lines_are : AllByRecursion (λ l. IsSome (id_of l)) (lines text) = subst (λ x. AllByRecursion (λ l. IsSome (id_of l)) (lines x))
    (sym t.is_text) (are_lines t.set (are_ids ids t.set a t.is_set)) in
    let some : IsSome (id_of h.1) =
    one_of (λ l. IsSome (id_of l)) h.0 h.1 h.2 (subst (AllByRecursion (λ l. IsSome (id_of l))) h.3 lines_are) in
    absurd (no_id (id_of h.1) h.5 some)
never_refused ids text Memory a t h = refl
never_refused ids text (Io kind) a t h = absurd h
never_refused ids text Locked a t h = absurd h

-- two sorted lists of the same ids are equal
less_less : (a b : ObjectId) → id_cmp a b ≡ Less → id_cmp b a ≡ Less → ⊥
less_less a b h k = let back : id_cmp b a ≡ Greater = ids_total.antisymm b a ∙ ap ordering_reverse h in cc

below_all : (x q : ObjectId) (xs : List ObjectId) → AllByRecursion (λ y. id_cmp x y ≡ Less) xs → Contains xs q → id_cmp x q ≡ Less
below_all x q [] a h = absurd (no_member q h)
below_all x q (y ∷ ys) a h = at (below_all x q ys a.1) (member_cases y ys q h)
  where
    at : (Contains ys q → id_cmp x q ≡ Less) → (q ≡ y) ⊎ Contains ys q → id_cmp x q ≡ Less
    at more (inl e) = subst (λ z. id_cmp x z ≡ Less) (sym e) a.0
    at more (inr m) = more m

same_first : (x y : ObjectId) (xs ys : List ObjectId) → AllByRecursion (λ z. id_cmp x z ≡ Less) xs
    → AllByRecursion (λ z. id_cmp y z ≡ Less) ys → Contains (y ∷ ys) x → Contains (x ∷ xs) y → x ≡ y
same_first x y xs ys a b h k = at (member_cases y ys x h) (member_cases x xs y k)
  where
    at : (x ≡ y) ⊎ Contains ys x → (y ≡ x) ⊎ Contains xs y → x ≡ y
    at (inl e) o = e
    at (inr m) (inl e) = sym e
    at (inr m) (inr n) = absurd (less_less x y (below_all x y xs a n) (below_all y x ys b m))

in_rest : (x : ObjectId) (xs ys : List ObjectId) (q : ObjectId) → AllByRecursion (λ z. id_cmp x z ≡ Less) xs
    → (Contains (x ∷ xs) q → Contains (x ∷ ys) q) → Contains xs q → Contains ys q
in_rest x xs ys q a f h = at (member_cases x ys q (f (later_member x xs q h)))
  where
    at : (q ≡ x) ⊎ Contains ys q → Contains ys q
    at (inr m) = m
    at (inl e) = let less : id_cmp x x ≡ Less = subst (λ z. id_cmp x z ≡ Less) e (below_all x q xs a h) in absurd (less_less x x less less)

only_one : (xs ys : List ObjectId) → IsStrictlySortedBy id_cmp xs → IsStrictlySortedBy id_cmp ys
    → ((q : ObjectId) → Contains xs q ↔ Contains ys q) → xs ≡ ys
unfolding IsStrictlySortedBy
only_one [] [] s t h = refl
only_one [] (y ∷ ys) s t h = absurd (no_member y ((h y).1 (first_member y ys y refl)))
only_one (x ∷ xs) [] s t h = absurd (no_member x ((h x).0 (first_member x xs x refl)))
only_one (x ∷ xs) (y ∷ ys) s t h =
    let e : x ≡ y = same_first x y xs ys s.0 t.0 ((h x).0 (first_member x xs x refl)) ((h y).1 (first_member y ys y refl)) in
    let below : AllByRecursion (λ z. id_cmp x z ≡ Less) ys = subst (λ v. AllByRecursion (λ z. id_cmp v z ≡ Less) ys) (sym e) t.0 in
    let same : (q : ObjectId) → Contains (x ∷ xs) q
    ↔ Contains (x ∷ ys) q = subst (λ v. (q : ObjectId) → Contains (x ∷ xs) q ↔ Contains (v ∷ ys) q) (sym e) h in
    let more : xs ≡ ys = only_one xs ys s.1 t.1 (λ q. (in_rest x xs ys q s.0 (same q).0, in_rest x ys xs q below (same q).1)) in
    cc

pub read_same : (ids : List ObjectId) (text : List ℕ) (read : List ObjectId) → All IsId ids → IsStrictlySortedBy id_cmp ids
    → IsTextOf ids text → ReadsIds text read → read ≡ ids
read_same ids text read a s t r = let set = read_back ids text read a t r in only_one read ids set.ordered s set.same
