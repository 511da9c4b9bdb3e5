-- What the front of some bytes says about their packet lines.
use Rattle.std.proofs.Common.{◌≡◌, ℕ, zero, suc, ◌<◌, ◌≤◌, Bool, true, false, cond, nat_lt, nat_eq, List, [], ◌∷◌, ◌++◌, length, take, drop, Option, Some, None, refl, ap, ◌∙◌, arith, eq-eqb, length-append, length-drop}
use Rattle.std.proofs.lemmas.Bool.{ltb-true, ltb-false, false_from_ne_true}
use Rattle.std.proofs.lemmas.List.{take-append-le}
use Rattle.gixp_packetline.specs.declared.packet.Head.{Head}
use Rattle.gixp_packetline.specs.declared.packet.Head.TheVariants.{Partial, Bad, Special, Data}
use Rattle.gixp_packetline.specs.Frames.{size_of, frame_head, head_of, FitsFront, Frames, with_frame, payload, special, frames_by, frames_within, frames_of}
use Rattle.gixp_packetline.specs.Pieces.{pieces_of, stream_pieces, pieces_by}

-- by cases of a test
pub by_test : (P : Head → Type 0) (b : Bool) (x y : Head) → (b ≡ true → P x) → (b ≡ false → P y) → P (cond b x y)
by_test P true x y f g = f refl
by_test P false x y f g = g refl

eqb_false : (a b : ℕ) → nat_eq a b ≡ false → a ≡ b → ⊥
eqb_false a b h e = let h' : nat_eq b b ≡ false = rw e at h in let t = eq-eqb b b refl in cc

frame_fits : (o : Option ℕ) (n : ℕ) → 4 ≤ n → FitsFront n (frame_head o n)
frame_fits None n h = h
frame_fits (Some size) n h =
    let P : Head → Type 0 = FitsFront n in
    by_test P (nat_eq size 0) _ _ (λ _. h) (λ n0.
    by_test P (nat_eq size 1) _ _ (λ _. h) (λ n1.
    by_test P (nat_eq size 2) _ _ (λ _. h) (λ n2.
    by_test P (nat_eq size 3) _ _ (λ _. h) (λ n3.
    by_test P (nat_eq size 4) _ _ (λ _. h) (λ n4.
    by_test P (nat_lt 65520 size) _ _ (λ _. h) (λ big.
    by_test P (nat_lt n size) _ _
    (λ less. let a = ltb-true n size less in let b = ltb-false 65520 size big in omega arith)
    (λ whole.
    let e0 = eqb_false size 0 n0 in let e1 = eqb_false size 1 n1 in let e2 = eqb_false size 2 n2 in
    let e3 = eqb_false size 3 n3 in let e4 = eqb_false size 4 n4 in
    let b = ltb-false 65520 size big in let w = ltb-false n size whole in
    (omega arith, w, b))))))))

-- the packet line at the front fits
pub head_fits : (bytes : List ℕ) → FitsFront (length bytes) (head_of bytes)
head_fits bytes = by_test (FitsFront (length bytes)) (nat_lt (length bytes) 4) _ _
    (λ short. let a = ltb-true (length bytes) 4 short in omega arith)
    (λ long. frame_fits (size_of (take 4 bytes)) (length bytes) (ltb-false (length bytes) 4 long))

keep : (b : Bool) (x a c : Head) → ((a ≡ Partial → ⊥) → c ≡ a) → (cond b x a ≡ Partial → ⊥) → cond b x c ≡ cond b x a
keep true x a c f h = refl
keep false x a c f h = f h

last_more : (n m size : ℕ) → n ≤ m → (cond (nat_lt n size) Partial (Data size) ≡ Partial → ⊥) → cond (nat_lt m size) Partial (Data size)
    ≡ cond (nat_lt n size) Partial (Data size)
last_more n m size le h = at (nat_lt n size) (nat_lt m size) refl refl
  where
    at : (a b : Bool) → nat_lt n size ≡ a → nat_lt m size ≡ b → cond (nat_lt m size) Partial (Data size)
        ≡ cond (nat_lt n size) Partial (Data size)
    at true b e f = absurd (h (rw e refl))
    at false true e f = absurd (let x = ltb-false n size e in let y = ltb-true m size f in omega arith)
    at false false e f = rw (e, f) refl

frame_more : (o : Option ℕ) (n m : ℕ) → n ≤ m → (frame_head o n ≡ Partial → ⊥) → frame_head o m ≡ frame_head o n
frame_more None n m le h = refl
frame_more (Some size) n m le h =
    keep (nat_eq size 0) _ _ _ (
    keep (nat_eq size 1) _ _ _ (
    keep (nat_eq size 2) _ _ _ (
    keep (nat_eq size 3) _ _ _ (
    keep (nat_eq size 4) _ _ _ (
    keep (nat_lt 65520 size) _ _ _ (last_more n m size le)))))) h

-- the head of a whole packet line stays the same, whatever follows
pub head_more : (bytes more : List ℕ) → (head_of bytes ≡ Partial → ⊥) → head_of (bytes ++ more) ≡ head_of bytes
head_more bytes more h = at (nat_lt (length bytes) 4) refl
  where
    at : (b : Bool) → nat_lt (length bytes) 4 ≡ b → head_of (bytes ++ more) ≡ head_of bytes
    at true e = absurd (h (rw e refl))
    at false e =
        let four : 4 ≤ length bytes = ltb-false (length bytes) 4 e in
        let longer : 4 ≤ length (bytes ++ more) = omega (arith, length-append bytes more) in
        let e2 : nat_lt (length (bytes ++ more)) 4 ≡ false =
        false_from_ne_true _ (λ t. let x = ltb-true (length (bytes ++ more)) 4 t in absurd (omega arith)) in
        let same : take 4 (bytes ++ more) ≡ take 4 bytes = take-append-le 4 bytes more four in
        let whole : frame_head (size_of (take 4 bytes)) (length bytes) ≡ Partial → ⊥ = λ p. h (rw e p) in
        let grows : length bytes ≤ length (bytes ++ more) = omega (arith, length-append bytes more) in
        rw (e, e2, same) (frame_more (size_of (take 4 bytes)) (length bytes) (length (bytes ++ more)) grows whole)

-- two ways to split the rest that agree on shorter lists
frames_agree : (h : Head) (bytes : List ℕ) (f g : List ℕ → Frames) → FitsFront (length bytes) h
    → ((rest : List ℕ) → length rest < length bytes → f rest ≡ g rest) → frames_by h bytes f ≡ frames_by h bytes g
frames_agree Partial bytes f g fits same = refl
frames_agree (Bad e) bytes f g fits same = refl
frames_agree (Special kind) bytes f g fits same = ap (with_frame (special kind)) (same (drop 4 bytes) (omega (arith, length-drop 4 bytes)))
frames_agree (Data size) bytes f g fits same =
    ap (with_frame (payload (drop 4 (take size bytes)))) (same (drop size bytes) (omega (arith, length-drop size bytes)))

within_enough : (n m : ℕ) (bytes : List ℕ) → length bytes ≤ n → length bytes ≤ m → frames_within n bytes ≡ frames_within m bytes
unfolding frames_within
within_enough zero zero bytes a b = refl
within_enough zero (suc m) [] a b = refl
within_enough zero (suc m) (x ∷ xs) a b = absurd (omega arith)
within_enough (suc n) zero [] a b = refl
within_enough (suc n) zero (x ∷ xs) a b = absurd (omega arith)
within_enough (suc n) (suc m) bytes a b =
    frames_agree (head_of bytes) bytes (frames_within n) (frames_within m) (head_fits bytes)
    (λ rest less. within_enough n m rest (omega arith) (omega arith))

-- the packet lines of a stream, by the head of the first one
pub frames_of-step : (bytes : List ℕ) → frames_of bytes ≡ frames_by (head_of bytes) bytes frames_of
unfolding frames_of frames_within
frames_of-step [] = refl
frames_of-step (x ∷ xs) =
    let bytes = x ∷ xs in
    frames_agree (head_of bytes) bytes (frames_within (length xs)) frames_of (head_fits bytes)
    (λ rest less. within_enough (length xs) (length rest) rest (omega arith) (omega arith))

pieces_step : (h : Head) (bytes : List ℕ) → pieces_of (frames_by h bytes frames_of) ≡ pieces_by h bytes
pieces_step Partial bytes = refl
pieces_step (Bad e) bytes = refl
pieces_step (Special kind) bytes = refl
pieces_step (Data size) bytes = refl

-- the same, as lines and special packets
pub stream_pieces-step : (bytes : List ℕ) → stream_pieces bytes ≡ pieces_by (head_of bytes) bytes
stream_pieces-step bytes = ap pieces_of (frames_of-step bytes) ∙ pieces_step (head_of bytes) bytes
