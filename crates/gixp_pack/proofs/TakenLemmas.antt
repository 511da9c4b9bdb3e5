-- A pack that is checked piece by piece.
use Rattle.std.proofs.Common.{◌≡◌, ℕ, ◌+◌, ◌-◌, ◌^◌, ◌≤◌, List, ◌++◌, length, take, drop, min, arith, ap, sym, ◌∙◌, inl, inr}
use Rattle.std.proofs.lemmas.Grind.{common_steps}
use Rattle.std.proofs.lemmas.List.{append_assoc, append-nil, take-append-drop, take-append-le, take_all, length-append, length-take-le, length-drop}
use Rattle.std.proofs.lemmas.Bool.{cases_lt}
use Rattle.std.proofs.Math.Seq.{take-append-add, drop-append-add}

-- `&s[n..]`
pub to_end : (n : ℕ) (s : List ℕ) → take (length s - n) (drop n s) ≡ drop n s
to_end n s = take_all (length s - n) (drop n s) (omega (arith, length-drop n s))

module _ (m b : List ℕ) where
  before : List ℕ
  before = take (length m - 20) m

  after : List ℕ
  after = drop (length m - 20) m ++ b

  whole : m ++ b ≡ before ++ after
  unfolding before after
  whole = ap (λ x. x ++ b) (sym (take-append-drop (length m - 20) m)) ∙ append_assoc (take (length m - 20) m) (drop (length m - 20) m) b

  count : length (m ++ b) - 20 ≡ length before + (length after - 20)
  unfolding before after
  count = omega (
    arith,
    length-append m b,
    length-append (drop (length m - 20) m) b,
    length-drop (length m - 20) m,
    length-take-le (length m - 20) m (omega arith),
  )

  -- the bytes before the last 20
  pub hashed_more : take (length (m ++ b) - 20) (m ++ b) ≡ take (length m - 20) m
      ++ take (length (drop (length m - 20) m ++ b) - 20) (drop (length m - 20) m ++ b)
  unfolding before after whole count
  hashed_more = rw (count, whole) (take-append-add before after (length after - 20))

  pub last_more : drop (length (m ++ b) - 20) (m ++ b) ≡ drop (length (drop (length m - 20) m ++ b) - 20) (drop (length m - 20) m ++ b)
  unfolding before after whole count
  last_more = rw (count, whole) (drop-append-add before after (length after - 20))

  long : 12 ≤ length m → take 12 (m ++ b) ≡ take 12 m ++ take (12 - length (take 12 m)) b
  long h = rw (length-take-le 12 m h) (take-append-le 12 m b h ∙ sym (append-nil (take 12 m)))

  short : length m ≤ 12 → take 12 (m ++ b) ≡ take 12 m ++ take (12 - length (take 12 m)) b
  short h = let e : 12 ≡ length m + (12 - length m) = omega arith in
      rw (take_all 12 m h) (ap (λ n. take n (m ++ b)) e ∙ take-append-add m b (12 - length m))

  pub header_more : take 12 (m ++ b) ≡ take 12 m ++ take (12 - length (take 12 m)) b
  header_more = elim (cases_lt (length m) 12) [ inl h ↦ short (omega arith) | inr h ↦ long h ]

  pub count_more : min (min (length m) (2 ^ 64 - 1) + length b) (2 ^ 64 - 1) ≡ min (length (m ++ b)) (2 ^ 64 - 1)
  count_more = rw (length-append m b) (grind (arith, common_steps))
