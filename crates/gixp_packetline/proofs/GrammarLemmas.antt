-- The packet lines of some bytes match the grammar, and no others do.
use Rattle.std.proofs.Common.{◌≡◌, ℕ, zero, suc, ◌+◌, ◌<◌, ◌≤◌, ◌⊎◌, inl, inr, true, false, nat_lt, nat_eq, List, [], ◌∷◌, ◌++◌, length, take, drop, Option, Some, None, refl, sym, ap, subst, ◌∙◌, arith, eqb-true, eq-eqb, length-drop, ne_eqb, append_assoc, take_all, length-append}
use Rattle.std.proofs.lemmas.Bool.{ltb-true, ltb-false, lt-ltb, false_from_ne_true}
use Rattle.std.proofs.lemmas.List.{take-append-drop, length-take-le, take-take, take-append-le, length-take}
use Rattle.std.proofs.Math.Seq.{take-append_seam, drop-append_seam}
use Rattle.gixp_packetline.specs.declared.packet.PacketError.TheVariants.{HexDecode, DataLengthLimitExceeded, DataIsEmpty, InvalidLineLength}
use Rattle.gixp_packetline.specs.declared.protocol.MessageKind.TheVariants.{Flush, Delimiter, ResponseEnd, Text}
use Rattle.gixp_packetline.specs.declared.packet.Head.{Head}
use Rattle.gixp_packetline.specs.declared.packet.Head.TheVariants.{Partial, Bad, Special, Data}
use Rattle.gixp_packetline.specs.declared.packet.PacketError.{PacketError}
use Rattle.gixp_packetline.specs.declared.protocol.MessageKind.{MessageKind}
use Rattle.gixp_packetline.specs.Frames.{size_of, frame_head, head_of, FitsFront, Frames, frames_by, frames_of, no_frames, with_frame, payload, special, ended, bad, End, Frame}
use Rattle.gixp_packetline.specs.Grammar.{Counts, IsFrame, IsRefused, IsEnd, AreFrames}
use Rattle.gixp_packetline.proofs.FrameLemmas.{by_test, head_fits, frames_of-step}

-- what the head says about the four digits
abbrev Says : List ℕ → ℕ → Head → Type 0
Says digits n Partial = (k : ℕ) × (size_of digits ≡ Some k) × (4 < k) × (k ≤ 65520) × (n < k)
Says digits n (Bad HexDecode) = size_of digits ≡ None
Says digits n (Bad InvalidLineLength) = size_of digits ≡ Some 3
Says digits n (Bad DataIsEmpty) = size_of digits ≡ Some 4
Says digits n (Bad DataLengthLimitExceeded) = (k : ℕ) × (size_of digits ≡ Some k) × (65520 < k)
Says digits n (Special Flush) = size_of digits ≡ Some 0
Says digits n (Special Delimiter) = size_of digits ≡ Some 1
Says digits n (Special ResponseEnd) = size_of digits ≡ Some 2
Says digits n (Special Text) = ⊥
Says digits n (Data k) = size_of digits ≡ Some k

eqb_false : (a b : ℕ) → nat_eq a b ≡ false → a ≡ b → ⊥
eqb_false a b h e = let h' : nat_eq b b ≡ false = rw e at h in let t = eq-eqb b b refl in cc

says : (digits : List ℕ) (n : ℕ) (o : Option ℕ) → size_of digits ≡ o → Says digits n (frame_head o n)
says digits n None e = e
says digits n (Some k) e =
    let P : Head → Type 0 = Says digits n in
    let at : (m : ℕ) → nat_eq k m ≡ true → size_of digits ≡ Some m = λ m t. e ∙ ap Some (eqb-true k m t) in
    by_test P (nat_eq k 0) _ _ (at 0) (λ n0.
    by_test P (nat_eq k 1) _ _ (at 1) (λ n1.
    by_test P (nat_eq k 2) _ _ (at 2) (λ n2.
    by_test P (nat_eq k 3) _ _ (at 3) (λ n3.
    by_test P (nat_eq k 4) _ _ (at 4) (λ n4.
    by_test P (nat_lt 65520 k) _ _ (λ big. (k, e, ltb-true 65520 k big)) (λ small.
    by_test P (nat_lt n k) _ _
    (λ less.
    let e0 = eqb_false k 0 n0 in let e1 = eqb_false k 1 n1 in let e2 = eqb_false k 2 n2 in
    let e3 = eqb_false k 3 n3 in let e4 = eqb_false k 4 n4 in
    (k, e, omega arith, ltb-false 65520 k small, ltb-true n k less))
    (λ whole. e)))))))

abbrev FrontSays : List ℕ → Head → Type 0
FrontSays bytes h = ((h ≡ Partial) × (length bytes < 4)) ⊎ ((4 ≤ length bytes) × Says (take 4 bytes) (length bytes) h)

front_says : (bytes : List ℕ) → FrontSays bytes (head_of bytes)
front_says bytes = by_test (FrontSays bytes) (nat_lt (length bytes) 4) _ _
    (λ short. inl (refl, ltb-true (length bytes) 4 short))
    (λ long. inr (ltb-false (length bytes) 4 long, says (take 4 bytes) (length bytes) (size_of (take 4 bytes)) refl))

abbrev Are : List ℕ → Frames → Type 0
Are bytes fs = AreFrames bytes fs.list fs.end

four_of : (bytes : List ℕ) → 4 ≤ length bytes → length (take 4 bytes) ≡ 4
four_of bytes h = length-take-le 4 bytes h

split_at : (n : ℕ) (bytes : List ℕ) → bytes ≡ take n bytes ++ drop n bytes
split_at n bytes = sym (take-append-drop n bytes)

take_two : (n : ℕ) (bytes : List ℕ) → 4 ≤ n → n ≤ length bytes → take n bytes ≡ take 4 bytes ++ drop 4 (take n bytes)
take_two n bytes a b =
    let e : take 4 (take n bytes) ≡ take 4 bytes = take-take 4 n bytes a in
    sym (take-append-drop 4 (take n bytes)) ∙ ap (λ l. l ++ drop 4 (take n bytes)) e

are_by : (bytes : List ℕ) (h : Head) → FrontSays bytes h → FitsFront (length bytes) h
    → ((rest : List ℕ) → length rest < length bytes → Are rest (frames_of rest))
    → Are bytes (frames_by h bytes frames_of)
are_by bytes Partial (inl s) fits go = inl s.1
are_by bytes Partial (inr s) fits go = inr (s.1.0, (four_of bytes s.0, s.1.1), s.1.2, s.1.3, s.1.4)
are_by bytes (Bad e) (inl s) fits go = absurd (let x = s.0 in cc)
are_by bytes (Bad HexDecode) (inr s) fits go = (take 4 bytes, drop 4 bytes, split_at 4 bytes, (four_of bytes s.0, s.1))
are_by bytes (Bad InvalidLineLength) (inr s) fits go = (take 4 bytes, drop 4 bytes, split_at 4 bytes, (four_of bytes s.0, s.1))
are_by bytes (Bad DataIsEmpty) (inr s) fits go = (take 4 bytes, drop 4 bytes, split_at 4 bytes, (four_of bytes s.0, s.1))
are_by bytes (Bad DataLengthLimitExceeded) (inr s) fits go =
    (take 4 bytes, drop 4 bytes, split_at 4 bytes, (s.1.0, (four_of bytes s.0, s.1.1), s.1.2))
are_by bytes (Special k) (inl s) fits go = absurd (let x = s.0 in cc)
are_by bytes (Special Flush) (inr s) fits go =
    (take 4 bytes, drop 4 bytes, split_at 4 bytes, (four_of bytes s.0, s.1), go (drop 4 bytes) (omega (arith, length-drop 4 bytes)))
are_by bytes (Special Delimiter) (inr s) fits go =
    (take 4 bytes, drop 4 bytes, split_at 4 bytes, (four_of bytes s.0, s.1), go (drop 4 bytes) (omega (arith, length-drop 4 bytes)))
are_by bytes (Special ResponseEnd) (inr s) fits go =
    (take 4 bytes, drop 4 bytes, split_at 4 bytes, (four_of bytes s.0, s.1), go (drop 4 bytes) (omega (arith, length-drop 4 bytes)))
are_by bytes (Special Text) (inr s) fits go = absurd s.1
are_by bytes (Data n) (inl s) fits go = absurd (let x = s.0 in cc)
are_by bytes (Data n) (inr s) fits go =
    let p = drop 4 (take n bytes) in
    let whole : length (take n bytes) ≡ n = length-take-le n bytes fits.1 in
    let len : length p + 4 ≡ n = omega (arith, length-drop 4 (take n bytes)) in
    let count : size_of (take 4 bytes) ≡ Some (4 + length p) = s.1 ∙ ap Some (omega arith) in
    let le : 4 ≤ n = omega (arith, fits.0) in (
      take n bytes,
      drop n bytes,
      split_at n bytes,
      (take 4 bytes, (four_of bytes s.0, count), take_two n bytes le fits.1, omega (arith, fits.0), omega (arith, fits.2)),
      go (drop n bytes) (omega (arith, length-drop n bytes, fits.0)),
    )

are_within : (n : ℕ) (bytes : List ℕ) → length bytes ≤ n → Are bytes (frames_of bytes)
are_within zero [] h = rw frames_of-step (inl (omega arith))
are_within zero (x ∷ xs) h = absurd (omega arith)
are_within (suc n) bytes h =
    subst (Are bytes) (sym (frames_of-step bytes))
    (are_by bytes (head_of bytes) (front_says bytes) (head_fits bytes) (λ rest less. are_within n rest (omega arith)))

-- the computed packet lines match the grammar
pub are_frames : (bytes : List ℕ) → AreFrames bytes (frames_of bytes).list (frames_of bytes).end
are_frames bytes = are_within (length bytes) bytes (omega arith)

-- ---- no other packet lines match the grammar

lt_false : (a b : ℕ) → b ≤ a → nat_lt a b ≡ false
lt_false a b h = false_from_ne_true (nat_lt a b) (λ t. let x = ltb-true a b t in absurd (omega arith))

data_head : (k n : ℕ) → 4 < k → k ≤ 65520 → k ≤ n → frame_head (Some k) n ≡ Data k
data_head k n a b c =
    let e0 : nat_eq k 0 ≡ false = ne_eqb k 0 (λ e. absurd (omega arith)) in
    let e1 : nat_eq k 1 ≡ false = ne_eqb k 1 (λ e. absurd (omega arith)) in
    let e2 : nat_eq k 2 ≡ false = ne_eqb k 2 (λ e. absurd (omega arith)) in
    let e3 : nat_eq k 3 ≡ false = ne_eqb k 3 (λ e. absurd (omega arith)) in
    let e4 : nat_eq k 4 ≡ false = ne_eqb k 4 (λ e. absurd (omega arith)) in
    let e5 : nat_lt 65520 k ≡ false = lt_false 65520 k b in
    let e6 : nat_lt n k ≡ false = lt_false n k c in
    rw (e0, e1, e2, e3, e4, e5, e6) refl

partial_head : (k n : ℕ) → 4 < k → k ≤ 65520 → n < k → frame_head (Some k) n ≡ Partial
partial_head k n a b c =
    let e0 : nat_eq k 0 ≡ false = ne_eqb k 0 (λ e. absurd (omega arith)) in
    let e1 : nat_eq k 1 ≡ false = ne_eqb k 1 (λ e. absurd (omega arith)) in
    let e2 : nat_eq k 2 ≡ false = ne_eqb k 2 (λ e. absurd (omega arith)) in
    let e3 : nat_eq k 3 ≡ false = ne_eqb k 3 (λ e. absurd (omega arith)) in
    let e4 : nat_eq k 4 ≡ false = ne_eqb k 4 (λ e. absurd (omega arith)) in
    let e5 : nat_lt 65520 k ≡ false = lt_false 65520 k b in
    let e6 : nat_lt n k ≡ true = lt-ltb n k c in
    rw (e0, e1, e2, e3, e4, e5, e6) refl

long_head : (k n : ℕ) → 65520 < k → frame_head (Some k) n ≡ Bad DataLengthLimitExceeded
long_head k n a =
    let e0 : nat_eq k 0 ≡ false = ne_eqb k 0 (λ e. absurd (omega arith)) in
    let e1 : nat_eq k 1 ≡ false = ne_eqb k 1 (λ e. absurd (omega arith)) in
    let e2 : nat_eq k 2 ≡ false = ne_eqb k 2 (λ e. absurd (omega arith)) in
    let e3 : nat_eq k 3 ≡ false = ne_eqb k 3 (λ e. absurd (omega arith)) in
    let e4 : nat_eq k 4 ≡ false = ne_eqb k 4 (λ e. absurd (omega arith)) in
    let e5 : nat_lt 65520 k ≡ true = lt-ltb 65520 k a in
    rw (e0, e1, e2, e3, e4, e5) refl

four_head : (digits more : List ℕ) (o : Option ℕ) → length digits ≡ 4 → size_of digits ≡ o
    → head_of (digits ++ more) ≡ frame_head o (length (digits ++ more))
four_head digits more o four e =
    let n0 : nat_lt (length (digits ++ more)) 4 ≡ false = lt_false _ 4 (omega (arith, length-append digits more)) in
    let t : take 4 (digits ++ more) ≡ digits = take-append-le 4 digits more (omega arith) ∙ take_all 4 digits (omega arith) in
    rw (n0, t, e) refl

by_front : (bytes : List ℕ) (h : Head) → head_of bytes ≡ h → frames_of bytes ≡ frames_by h bytes frames_of
by_front bytes h e = frames_of-step bytes ∙ ap (λ k. frames_by k bytes frames_of) e

drop_front : (xs ys : List ℕ) (n : ℕ) → length xs ≡ n → drop n (xs ++ ys) ≡ ys
drop_front xs ys n e = ap (λ k. drop k (xs ++ ys)) (sym e) ∙ drop-append_seam xs ys

take_front : (xs ys : List ℕ) (n : ℕ) → length xs ≡ n → take n (xs ++ ys) ≡ xs
take_front xs ys n e = ap (λ k. take k (xs ++ ys)) (sym e) ∙ take-append_seam xs ys

special_front : (text rest : List ℕ) (kind : MessageKind) (n : ℕ) → Counts text n → ((m : ℕ) → frame_head (Some n) m ≡ Special kind)
    → frames_of (text ++ rest) ≡ with_frame (special kind) (frames_of rest)
special_front text rest kind n c f =
    by_front (text ++ rest) (Special kind) (four_head text rest (Some n) c.0 c.1 ∙ f (length (text ++ rest)))
    ∙ ap (λ l. with_frame (special kind) (frames_of l)) (drop_front text rest 4 c.0)

frame_front : (text rest : List ℕ) (f : Frame) → IsFrame text f → frames_of (text ++ rest) ≡ with_frame f (frames_of rest)
frame_front text rest (payload p) h =
    let digits = h.0 in
    let four : length digits ≡ 4 = h.1.0 in
    let whole : text ≡ digits ++ p = h.2 in
    let size = 4 + length p in
    let len : length text ≡ size = ap length whole ∙ length-append digits p ∙ ap (λ n. n + length p) four in
    let all : text ++ rest ≡ digits ++ (p ++ rest) = ap (λ l. l ++ rest) whole ∙ append_assoc digits p rest in
    let fits : size ≤ length (text ++ rest) = omega (arith, length-append text rest) in
    let count : length (text ++ rest) ≡ length (digits ++ (p ++ rest)) = ap length all in
    let head : head_of (text ++ rest) ≡ Data size =
    ap head_of all ∙ four_head digits (p ++ rest) (Some size) four h.1.1
    ∙ data_head size (length (digits ++ (p ++ rest))) (omega (arith, h.3)) (omega (arith, h.4)) (omega arith) in
    let front : drop 4 (take size (text ++ rest)) ≡ p = ap (drop 4) (take_front text rest size len ∙ whole) ∙ drop_front digits p 4 four in
    by_front (text ++ rest) (Data size) head ∙ (rw (front, drop_front text rest size len) refl)
frame_front text rest (special Flush) h = special_front text rest Flush 0 h (λ m. refl)
frame_front text rest (special Delimiter) h = special_front text rest Delimiter 1 h (λ m. refl)
frame_front text rest (special ResponseEnd) h = special_front text rest ResponseEnd 2 h (λ m. refl)
frame_front text rest (special Text) h = absurd h

refused_head : (digits more : List ℕ) (e : PacketError) → IsRefused digits e → head_of (digits ++ more) ≡ Bad e
refused_head digits more HexDecode h = four_head digits more None h.0 h.1
refused_head digits more InvalidLineLength h = four_head digits more (Some 3) h.0 h.1
refused_head digits more DataIsEmpty h = four_head digits more (Some 4) h.0 h.1
refused_head digits more DataLengthLimitExceeded h = four_head digits more (Some h.0) h.1.0 h.1.1 ∙ long_head h.0 _ h.2

end_front : (rest : List ℕ) (end : End) → IsEnd rest end → frames_of rest ≡ no_frames end
end_front rest (bad e) h = by_front rest (Bad e) (ap head_of h.2 ∙ refused_head h.0 h.1 e h.3)
end_front rest ended (inl h) = by_front rest Partial (let e : nat_lt (length rest) 4 ≡ true = lt-ltb (length rest) 4 h in rw e refl)
end_front rest ended (inr h) =
    let four : 4 ≤ length rest = (let l = length-take 4 rest in let f : length (take 4 rest) ≡ 4 = h.1.0 in omega arith) in
    let n0 : nat_lt (length rest) 4 ≡ false = lt_false (length rest) 4 four in
    let size : size_of (take 4 rest) ≡ Some h.0 = h.1.1 in
    by_front rest Partial (rw (n0, size) (partial_head h.0 (length rest) h.2 h.3 h.4))

-- packet lines that match the grammar are the computed ones
pub only_frames : (fs : List Frame) (bytes : List ℕ) (end : End) → AreFrames bytes fs end
    → frames_of bytes ≡ record { list = fs; end = end }
only_frames [] bytes end h = end_front bytes end h
only_frames (f ∷ fs) bytes end h =
    ap frames_of h.2 ∙ frame_front h.0 h.1 f h.3 ∙ ap (with_frame f) (only_frames fs h.1 end h.4)
