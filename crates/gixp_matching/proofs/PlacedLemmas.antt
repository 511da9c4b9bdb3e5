-- Keys with their indices, and which of them are the first of equal ones.
use Rattle.std.proofs.Common.{◌≡◌, ℕ, ◌+◌, ◌<◌, ◌≤◌, Bool, true, false, List, [], ◌∷◌, ◌++◌, length, take, map, get_or, Ordering, refl, sym, ap, subst, ◌∙◌, append_assoc, arith}
use Rattle.std.specs.Prelude.{◌&&◌, ◌||◌, ◌==◌, nat_lt, not}
use Rattle.std.specs.List.{AllByRecursion, IsDistinct, list_any}
use Rattle.std.specs.Ordering.{eq_by_cmp}
use Rattle.std.proofs.lemmas.List.{length-map, length-append, length-take-le, map-append}
use Rattle.std.proofs.lemmas.List.Folds.{list_any-append}
use Rattle.gixp_packetline.proofs.ListLemmas.{any_of_map, take-map_more}
use Rattle.gixp_matching.specs.Firsts.{is_fresh, first_flags}
use Rattle.gixp_matching.specs.Mappings.{Mapped, is_same}
use Rattle.gixp_utils.specs.Repeats.{is_before, is_first, tested_from}
use Rattle.gixp_utils.proofs.RepeatLemmas.{eqb_other, eqb_later, tested_same}
use Rattle.gixp_matching.specs.Placed.{placed, placed_from}
use Rattle.gixp_matching.proofs.FirstLemmas.{or_none}
use Rattle.gixp_matching.proofs.ListLemmas.{any_same}

-- ---- indices

module _ {P : Type 0} where
  placed-append : (n : ℕ) (xs ys : List P) → placed_from n (xs ++ ys) ≡ placed_from n xs ++ placed_from (n + length xs) ys
  placed-append n [] ys = let same : n ≡ n + 0 = omega arith in ap (λ m. placed_from m ys) same
  placed-append n (x ∷ xs) ys =
      let same : n + 1 + length xs ≡ n + length (x ∷ xs) = omega arith in
      ap (λ l. (x, n) ∷ l) (placed-append (n + 1) xs ys ∙ ap (λ m. placed_from (n + 1) xs ++ placed_from m ys) same)

  -- a step of a loop that lists each element with its index
  pub placed_more : {A : Type 0} (g : A → P) (now new : List (P × ℕ)) (xs : List A) (i : ℕ) (d : A) → i < length xs
      → now ≡ placed_from 0 (take i (map g xs)) → new ≡ now ++ (g (get_or xs i d), i) ∷ [] → new ≡ placed_from 0 (take (i + 1) (map g xs))
  placed_more g now new xs i d l kept step =
      let front = take i (map g xs) in
      let within : i ≤ length (map g xs) = omega (arith, length-map xs g, l) in
      let last : 0 + length front ≡ i = omega (arith, length-take-le i (map g xs) within) in
      step ∙ ap (λ z. z ++ (g (get_or xs i d), i) ∷ []) kept
      ∙ sym (ap (placed_from 0) (take-map_more g xs i d l) ∙ placed-append 0 front (g (get_or xs i d) ∷ [])
      ∙ ap (λ m. placed_from 0 front ++ (g (get_or xs i d), m) ∷ []) last)

  later_apart : (n k : ℕ) (xs : List P) → n < k → AllByRecursion (λ r. (n == r.1) ≡ false) (placed_from k xs)
  later_apart n k [] l = tt
  later_apart n k (x ∷ xs) l = (eqb_other n k l, later_apart n (k + 1) xs (omega arith))

  places_apart : (n : ℕ) (xs : List P) → IsDistinct (λ a b. a.1 == b.1) (placed_from n xs)
  unfolding IsDistinct
  places_apart n [] = tt
  places_apart n (x ∷ xs) = (later_apart n (n + 1) xs (omega arith), places_apart (n + 1) xs)

  module _ {K : Type 0} (s : K → P) where
    all_back : (n : ℕ) (rows : List (K × ℕ)) → AllByRecursion (λ y. (n == y.1) ≡ false) (map (placed s) rows)
        → AllByRecursion (λ y. (n == y.1) ≡ false) rows
    all_back n [] h = tt
    all_back n (row ∷ rows) h = (h.0, all_back n rows h.1)

    apart_back : (rows : List (K × ℕ)) → IsDistinct (λ a b. a.1 == b.1) (map (placed s) rows) → IsDistinct (λ a b. a.1 == b.1) rows
    unfolding IsDistinct
    apart_back [] h = tt
    apart_back (row ∷ rows) h = (all_back row.1 rows h.0, apart_back rows h.1)

    -- no two rows have one index
    pub rows_apart : (rows : List (K × ℕ)) (xs : List P) → map (placed s) rows ≡ placed_from 0 xs → IsDistinct (λ a b. a.1 == b.1) rows
    rows_apart rows xs is = apart_back rows (subst (IsDistinct (λ a b. a.1 == b.1)) (sym is) (places_apart 0 xs))

  -- ---- the elements before an index

  module _ (t : P → P → Bool) where
    abbrev before : List (P × ℕ) → P → ℕ → Bool
    before refs key place = list_any (λ r. t r.0 key && nat_lt r.1 place) refs

    abbrev repeat : List (P × ℕ) → ℕ → Bool
    repeat refs place = list_any (λ r. (r.1 == place) && before refs r.0 place) refs

    below_none : (q : P × ℕ → Bool) (n k : ℕ) (ys : List P) → k + length ys ≤ n
        → list_any (λ r. (r.1 == n) && q r) (placed_from k ys) ≡ false
    below_none q n k [] l = refl
    below_none q n k (y ∷ ys) l =
        ap (λ b. (b && q (y, k)) || list_any (λ r. (r.1 == n) && q r) (placed_from (k + 1) ys)) (eqb_other k n (omega arith))
        ∙ below_none q n (k + 1) ys (omega arith)

    above_none : (q : P × ℕ → Bool) (n k : ℕ) (ys : List P) → n < k → list_any (λ r. (r.1 == n) && q r) (placed_from k ys) ≡ false
    above_none q n k [] l = refl
    above_none q n k (y ∷ ys) l =
        ap (λ b. (b && q (y, k)) || list_any (λ r. (r.1 == n) && q r) (placed_from (k + 1) ys)) (eqb_later k n l)
        ∙ above_none q n (k + 1) ys (omega arith)

    and_true : (b : Bool) → (b && true) ≡ b
    and_true true = refl
    and_true false = refl

    and_false : (b : Bool) → (b && false) ≡ false
    and_false true = refl
    and_false false = refl

    before_all : (x : P) (n k : ℕ) (ys : List P) → k + length ys ≤ n → before (placed_from k ys) x n ≡ list_any (λ y. t y x) ys
    before_all x n k [] l = refl
    before_all x n k (y ∷ ys) l =
        let lower : nat_lt k n ≡ true = grind arith in
        ap (λ b. (t y x && b) || before (placed_from (k + 1) ys) x n) lower
        ∙ ap (λ b. b || before (placed_from (k + 1) ys) x n) (and_true (t y x))
        ∙ ap (λ b. t y x || b) (before_all x n (k + 1) ys (omega arith))

    before_none : (x : P) (n k : ℕ) (ys : List P) → n ≤ k → before (placed_from k ys) x n ≡ false
    before_none x n k [] l = refl
    before_none x n k (y ∷ ys) l =
        let upper : nat_lt k n ≡ false = grind arith in
        ap (λ b. (t y x && b) || before (placed_from (k + 1) ys) x n) upper
        ∙ ap (λ b. b || before (placed_from (k + 1) ys) x n) (and_false (t y x))
        ∙ before_none x n (k + 1) ys (omega arith)

    -- the elements before the index of an element are those in front of it
    repeat_at : (front : List P) (x : P) (later : List P) (n : ℕ) → n ≡ length front
        → repeat (placed_from 0 front ++ (x, n) ∷ placed_from (n + 1) later) n ≡ list_any (λ y. t y x) front
    repeat_at front x later n e =
        let refs = placed_from 0 front ++ (x, n) ∷ placed_from (n + 1) later in
        let q : P × ℕ → Bool = λ r. before refs r.0 n in
        let here : (n == n) ≡ true = grind arith in
        let all : before refs x n ≡ list_any (λ y. t y x) front =
        list_any-append (λ r. t r.0 x && nat_lt r.1 n) (placed_from 0 front) ((x, n) ∷ placed_from (n + 1) later)
        ∙ ap (λ b. before (placed_from 0 front) x n || b) (before_none x n n (x ∷ later) (omega arith))
        ∙ or_none (before (placed_from 0 front) x n) ∙ before_all x n 0 front (omega (arith, e)) in
        list_any-append (λ r. (r.1 == n) && q r) (placed_from 0 front) ((x, n) ∷ placed_from (n + 1) later)
        ∙ ap (λ b. b || list_any (λ r. (r.1 == n) && q r) ((x, n) ∷ placed_from (n + 1) later)) (below_none q n 0 front (omega (arith, e)))
        ∙ ap (λ b. (b && q (x, n)) || list_any (λ r. (r.1 == n) && q r) (placed_from (n + 1) later)) here
        ∙ ap (λ b. q (x, n) || b) (above_none q n (n + 1) later (omega arith)) ∙ or_none (q (x, n)) ∙ all

    -- the flags of the first of equal mappings
    module _ (g : Mapped → P) (same : (a b : Mapped) → t (g a) (g b) ≡ is_same a b) where
      first_tested : (front rest : List Mapped)
          → tested_from (λ p. not (repeat (placed_from 0 (map g (front ++ rest))) p)) (length front) rest ≡ first_flags front rest
      first_tested front [] = refl
      first_tested front (m ∷ rest) =
          let n = length front in
          let all = placed_from 0 (map g (front ++ m ∷ rest)) in
          let long : 0 + length (map g front) ≡ n = omega (arith, length-map front g) in
          let own : n ≡ length (map g front) = omega (arith, length-map front g) in
          let split : all ≡ placed_from 0 (map g front) ++ (g m, n) ∷ placed_from (n + 1) (map g rest) =
          ap (placed_from 0) (map-append g front (m ∷ rest)) ∙ placed-append 0 (map g front) (map g (m ∷ rest))
          ∙ ap (λ k. placed_from 0 (map g front) ++ placed_from k (map g (m ∷ rest))) long in
          let flag : not (repeat all n) ≡ is_fresh front m =
          ap not (ap (λ refs. repeat refs n) split ∙ repeat_at (map g front) (g m) (map g rest) n own
          ∙ any_of_map (λ y. t y (g m)) g front ∙ any_same (λ e. t (g e) (g m)) (λ e. is_same e m) (λ e. same e m) front) in
          let next : length (front ++ m ∷ []) ≡ n + 1 = omega (arith, length-append front (m ∷ [])) in
          let later : tested_from (λ p. not (repeat all p)) (n + 1) rest ≡ first_flags (front ++ m ∷ []) rest =
          ap (λ k. tested_from (λ p. not (repeat all p)) k rest) (sym next)
          ∙ ap (λ l. tested_from (λ p. not (repeat (placed_from 0 (map g l)) p)) (length (front ++ m ∷ [])) rest)
          (sym (append_assoc front (m ∷ []) rest))
          ∙ first_tested (front ++ m ∷ []) rest in
          ap (λ b. b ∷ tested_from (λ p. not (repeat all p)) (n + 1) rest) flag ∙ ap (λ l. is_fresh front m ∷ l) later

-- ---- rows for the keys of mappings

tested_map : {A B : Type 0} (f : A → B) (t : ℕ → Bool) (n : ℕ) (xs : List A) → tested_from t n xs ≡ tested_from t n (map f xs)
tested_map f t n [] = refl
tested_map f t n (x ∷ xs) = ap (λ l. t n ∷ l) (tested_map f t (n + 1) xs)

tested_placed : {P : Type 0} (t : ℕ → Bool) (n k : ℕ) (xs : List P) → tested_from t n (placed_from k xs) ≡ tested_from t n xs
tested_placed t n k [] = refl
tested_placed t n k (x ∷ xs) = ap (λ l. t n ∷ l) (tested_placed t (n + 1) (k + 1) xs)

pub flags_are_first : {K P : Type 0} (R : K → K → Ordering) (t : P → P → Bool) (s : K → P) (g : Mapped → P)
    → ((x y : K) → eq_by_cmp R x y ≡ t (s x) (s y)) → ((a b : Mapped) → t (g a) (g b) ≡ is_same a b)
    → (rows : List (K × ℕ)) (ms : List Mapped) → map (placed s) rows ≡ placed_from 0 (map g ms)
    → tested_from (is_first R rows) 0 rows ≡ first_flags [] ms
flags_are_first R t s g tied same rows ms is =
    let f = placed s in
    let turned = λ (p : ℕ). any_same (λ row. (row.1 == p) && is_before R rows row.0 p)
    (λ row. (row.1 == p) && before t (map f rows) (s row.0) p)
    (λ row. ap (λ b. (row.1 == p) && b)
    (any_same (λ r. eq_by_cmp R r.0 row.0 && nat_lt r.1 p) (λ r. t (s r.0) (s row.0) && nat_lt r.1 p)
    (λ r. ap (λ b. b && nat_lt r.1 p) (tied r.0 row.0)) rows
    ∙ sym (any_of_map (λ r. t r.0 (s row.0) && nat_lt r.1 p) f rows))) rows
    ∙ sym (any_of_map (λ r. (r.1 == p) && before t (map f rows) r.0 p) f rows)
    ∙ ap (λ refs. repeat t refs p) is in
    tested_map f (is_first R rows) 0 rows ∙ ap (tested_from (is_first R rows) 0) is ∙ tested_placed (is_first R rows) 0 0 (map g ms)
    ∙ sym (tested_map g (is_first R rows) 0 ms)
    ∙ tested_same (is_first R rows) (λ p. not (repeat t (placed_from 0 (map g ms)) p)) 0 ms (λ q l. ap not (turned q))
    ∙ first_tested t g same [] ms
