-- Parts of spans.
use Rattle.std.proofs.Common.{◌≡◌, ℕ, ◌+◌, ◌-◌, ◌<◌, ◌≤◌, List, length, take, drop, Option, Some, None, refl, sym, ap, ◌∙◌, arith, length-drop}
use Rattle.std.specs.Prelude.{◌==◌}
use Rattle.std.specs.List.{position}
use Rattle.std.proofs.lemmas.List.Quantifiers.{position-Some}
use Rattle.gixp_capabilities.specs.Cut.{cut, parts_at}
use Rattle.std.proofs.lemmas.List.{length-take, length-take-le, take-take, drop-drop, drop-take, take_min}

-- a text within the bytes has the length of its span
pub length-text_at : (bytes : List ℕ) (at len : ℕ) → at + len ≤ length bytes → length (take len (drop at bytes)) ≡ len
length-text_at bytes at len h = length-take-le len (drop at bytes) (omega (arith, length-drop at bytes))

-- the text without its first bytes
pub drop-text_at : (bytes : List ℕ) (at len n : ℕ) → n ≤ len → take (len - n) (drop (at + n) bytes) ≡ drop n (take len (drop at bytes))
drop-text_at bytes at len n h =
    let whole : n + (len - n) ≡ len = omega arith in
    sym (ap (λ k. drop n (take k (drop at bytes))) (sym whole) ∙ drop-take n (len - n) (drop at bytes)
    ∙ ap (take (len - n)) (drop-drop n at bytes))

-- the first bytes of the text
pub take-text_at : (bytes : List ℕ) (at len n : ℕ) → n ≤ len → take n (drop at bytes) ≡ take n (take len (drop at bytes))
take-text_at bytes at len n h = sym (take-take n len (drop at bytes) h)

-- a prefix of the text, by its length
pub front-text_at : (bytes : List ℕ) (at len n : ℕ) → let front = take n (take len (drop at bytes)) in
    take (length front) (drop at bytes) ≡ front
front-text_at bytes at len n =
    let text = take len (drop at bytes) in
    let front = take n text in
    let short : length front ≤ len = omega (arith, length-take n text, length-take len (drop at bytes)) in
    take-text_at bytes at len (length front) short ∙ ap (λ k. take k text) (length-take n text) ∙ take_min n text

-- a text that was cut in two: the part before the offset, and the part after it
pub cut_parts : (byte : ℕ) (text a b : List ℕ) → cut byte text ≡ (a, Some b)
    → (i : ℕ) × (i < length text) × (a ≡ take i text) × (b ≡ drop (i + 1) text)
cut_parts byte text a b h = at (position (λ x. x == byte) text) refl h
  where
    at : (o : Option ℕ) → position (λ x. x == byte) text ≡ o → parts_at text o ≡ (a, Some b)
        → (i : ℕ) × (i < length text) × (a ≡ take i text) × (b ≡ drop (i + 1) text)
    at None p e = let k = ap (λ (x : List ℕ × Option (List ℕ)). x.1) e in absurd cc
    at (Some i) p e =
        let k : Some (drop (i + 1) text) ≡ Some b = ap (λ (x : List ℕ × Option (List ℕ)). x.1) e in
        let first : take i text ≡ a = ap (λ (x : List ℕ × Option (List ℕ)). x.0) e in
        let rest : drop (i + 1) text ≡ b = cc in
        (i, (position-Some (λ x. x == byte) text i 0 p).0, sym first, sym rest)

-- the spans of both parts
pub cut-text_at : (bytes : List ℕ) (byte at len : ℕ) (a b : List ℕ) → at + len ≤ length bytes
    → cut byte (take len (drop at bytes)) ≡ (a, Some b)
    → cut byte (take len (drop at bytes)) ≡ (take (length a) (drop at bytes), Some (take (length b) (drop (at + len - length b) bytes)))
cut-text_at bytes byte at len a b h e =
    let text = take len (drop at bytes) in
    let p = cut_parts byte text a b e in
    let i = p.0 in
    let whole = length-text_at bytes at len h in
    let short : i + 1 ≤ len = omega (arith, p.1, whole) in
    let size : length b ≡ len - (i + 1) = ap length p.3 ∙ length-drop (i + 1) text ∙ ap (λ n. n - (i + 1)) whole in
    let place : at + len - length b ≡ at + (i + 1) = omega (arith, size, short) in
    let first : take (length a) (drop at bytes) ≡ a =
    rw p.2 (front-text_at bytes at len i) in
    let rest : take (length b) (drop (at + len - length b) bytes) ≡ b =
    ap (λ n. take n (drop (at + len - length b) bytes)) size ∙ ap (λ n. take (len - (i + 1)) (drop n bytes)) place
    ∙ drop-text_at bytes at len (i + 1) short ∙ sym p.3 in
    e ∙ sym (ap (λ x. (x, Some b)) first) ∙ ap (λ x. (take (length a) (drop at bytes), Some x)) (sym rest)
