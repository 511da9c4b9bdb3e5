-- The lines of a text.
use Rattle.std.proofs.Common.{◌≡◌, ℕ, ◌+◌, ◌-◌, ◌<◌, ◌≤◌, suc, Some, None, Bool, true, false, cond, List, [], ◌∷◌, ◌++◌, length, take, drop, refl, sym, ap, ◌∙◌, subst, append_assoc, add-one, arith}
use Rattle.std.specs.Prelude.{not, ◌==◌, if◌then◌else◌, nat_lt, IsSome}
use Rattle.std.specs.List.{position, position_or_len, All, AllZip}
use Rattle.std.proofs.lemmas.List.{take_rest}
use Rattle.std.proofs.Math.Seq.{take-length}
use Rattle.std.proofs.Math.ListN.{drop_of_length-le}
use Rattle.std.proofs.lemmas.List.Elements.{All-nil, All-cons}
use Rattle.std.proofs.lemmas.Bool.Decides.{nat_tests}
use Rattle.std.proofs.lemmas.List.Sums.{prefix_len-le-length}
use Rattle.gixp_hash.specs.declared.object_id.ObjectId.{ObjectId}
use Rattle.gixp_hash.specs.ObjectId.{id_of}
use Rattle.gixp_shallow.specs.declared.store.ShallowError.{ShallowError}
use Rattle.gixp_shallow.specs.declared.store.ShallowError.TheVariants.{Io, Locked, Decode, Memory}
use Rattle.gixp_shallow.specs.ShallowText.{lines, in_first, IsIdOf, IsNoId, IdTextFails}

abbrev cut : List ℕ → ℕ
cut text = position_or_len (λ b. b == 10) text

in_front : (x : ℕ) (rest : List ℕ) (n m : ℕ) → m ≡ suc n → in_first x (take n rest ∷ lines (drop (suc n) rest)) ≡ take m (x ∷ rest)
    ∷ lines (drop (suc m) (x ∷ rest))
in_front x rest n m e = rw e refl

-- the first line, and the lines after it
pub first_of_lines : (text : List ℕ) → 0 < length text → lines text ≡ take (cut text) text ∷ lines (drop (suc (cut text)) text)
first_of_lines [] h = absurd (omega arith)
first_of_lines (x ∷ []) h = at (x == 10)
  where
    at : (b : Bool) → (if b then [] ∷ [] else (x ∷ []) ∷ []) ≡ take (cond (not b) 1 0) (x ∷ [])
        ∷ lines (drop (suc (cond (not b) 1 0)) (x ∷ []))
    at true = refl
    at false = refl
first_of_lines (x ∷ y ∷ ys) h = at (x == 10) (first_of_lines (y ∷ ys) (omega arith))
  where
    at : (b : Bool) → lines (y ∷ ys) ≡ take (cut (y ∷ ys)) (y ∷ ys) ∷ lines (drop (suc (cut (y ∷ ys))) (y ∷ ys))
        → (if b then [] ∷ lines (y ∷ ys) else in_first x (lines (y ∷ ys))) ≡ take (cond (not b) (1 + cut (y ∷ ys)) 0) (x ∷ y ∷ ys)
        ∷ lines (drop (suc (cond (not b) (1 + cut (y ∷ ys)) 0)) (x ∷ y ∷ ys))
    at true e = refl
    at false e = rw e (in_front x (y ∷ ys) (cut (y ∷ ys)) (1 + cut (y ∷ ys)) (omega arith))

at_end : (n len at : ℕ) → Some at ≡ cond (nat_lt n len) (Some n) None → (at ≡ n) × (n < len)
at_end n len at e = by (nat_lt n len) refl e
  where
    by : (b : Bool) → nat_lt n len ≡ b → Some at ≡ cond b (Some n) None → (at ≡ n) × (n < len)
    by true t h = (cc, grind (arith, nat_tests))
    by false t h = cc

no_end : (n len : ℕ) → n ≤ len → None ≡ cond (nat_lt n len) (Some n) None → n ≡ len
no_end n len l e = by (nat_lt n len) refl e
  where
    by : (b : Bool) → nat_lt n len ≡ b → None ≡ cond b (Some n) None → n ≡ len
    by true t h = cc
    by false t h = grind (arith, nat_tests)

-- an LF ends the first line
pub line_found : (text : List ℕ) (at : ℕ) → 0 < length text → Some at ≡ position (λ b. b == 10) text
    → lines text ≡ take at text ∷ lines (take (length text - (at + 1)) (drop (at + 1) text))
line_found text at h e =
    let p = at_end (cut text) (length text) at e in
    first_of_lines text h ∙ ap (λ n. take n text ∷ lines (drop (suc n) text)) (sym p.0)
    ∙ ap (λ rest. take at text ∷ lines rest) (ap (λ n. drop n text) (sym (add-one at)) ∙ sym (take_rest text (at + 1)))

-- no LF ends the first line
pub line_last : (text : List ℕ) → 0 < length text → None ≡ position (λ b. b == 10) text → lines text ≡ text ∷ []
line_last text h e =
    let n : cut text ≡ length text = no_end (cut text) (length text) (prefix_len-le-length (λ x. not (x == 10)) text) e in
    first_of_lines text h ∙ ap (λ n. take n text ∷ lines (drop (suc n) text)) n
    ∙ (λ i. take-length text i ∷ lines (drop_of_length-le text {i = suc (length text)} (omega arith) i))

-- each line that was read is an id
are_ids : (before : List (List ℕ)) (ids : List ObjectId) → AllZip IsIdOf before ids → All (λ l. IsSome (id_of l)) before
are_ids [] [] h = All-nil (λ l. IsSome (id_of l))
are_ids [] (id ∷ ids) h = absurd h
are_ids (l ∷ ls) [] h = absurd h
are_ids (l ∷ ls) (id ∷ ids) h = All-cons (λ l. IsSome (id_of l)) l ls (subst IsSome (sym h.0) refl) (are_ids ls ids h.1)

-- a line that is not an id, after lines that are
pub unread : (text : List ℕ) (before : List (List ℕ)) (ids : List ObjectId) (rest line following : List ℕ) (e : ShallowError)
    → lines text ≡ before ++ lines rest → AllZip IsIdOf before ids
    → lines rest ≡ line ∷ lines following → IsNoId line e → IdTextFails text e
unread text before ids rest line following (Decode found) s a c n =
    (before, line, lines following, s ∙ ap (λ ls. before ++ ls) c, are_ids before ids a, n.0, n.1)
unread text before ids rest line following Memory s a c n = tt
unread text before ids rest line following (Io kind) s a c n = n
unread text before ids rest line following Locked s a c n = n

one_more : (before : List (List ℕ)) (ids : List ObjectId) (line : List ℕ) (id : ObjectId) → AllZip IsIdOf before ids → IsIdOf line id
    → AllZip IsIdOf (before ++ line ∷ []) (ids ++ id ∷ [])
one_more [] [] line id a is = (is, tt)
one_more [] (x ∷ xs) line id a is = absurd a
one_more (l ∷ ls) [] line id a is = absurd a
one_more (l ∷ ls) (x ∷ xs) line id a is = (a.0, one_more ls xs line id a.1 is)

pub one_line : (text : List ℕ) (before : List (List ℕ)) (ids more : List ObjectId) (id : ObjectId) (rest line following : List ℕ)
    → lines text ≡ before ++ lines rest → AllZip IsIdOf before ids
    → lines rest ≡ line ∷ lines following → IsIdOf line id → more ≡ ids ++ id ∷ [] → (x : List (List ℕ)) × (lines text ≡ x ++ lines following)
    × AllZip IsIdOf x more
one_line text before ids more id rest line following s a c is e = (
  before ++ line ∷ [],
  s ∙ ap (λ ls. before ++ ls) c ∙ sym (append_assoc before (line ∷ []) (lines following)),
  subst (AllZip IsIdOf (before ++ line ∷ [])) (sym e) (one_more before ids line id a is),
)
