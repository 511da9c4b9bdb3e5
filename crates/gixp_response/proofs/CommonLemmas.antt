-- The commits that a response names as common, each once.
use Rattle.std.proofs.Common.{◌≡◌, ℕ, ◌+◌, ◌<◌, ◌≤◌, Bool, true, false, List, [], ◌∷◌, ◌++◌, length, take, drop, get_or, zero, suc, refl, sym, ap, subst, ◌∙◌, inl, inr, arith}
use Rattle.std.specs.Prelude.{◌&&◌, ◌||◌, ◌==◌, nat_lt, not, Result, Ok, Err, OnOk}
use Rattle.std.specs.List.{AllByRecursion, IsDistinct, fold, list_any, slice_set}
use Rattle.std.specs.Ordering.{is_eq, eq_by_cmp}
use Rattle.std.specs.Cmp.Lexicographic.{texts_ties}
use Rattle.std.proofs.lemmas.Bool.{cases_Bool, or_cases, or_left, or_right}
use Rattle.std.proofs.lemmas.Cmp.{nat_list_eq_equiv}
use Rattle.std.proofs.lemmas.List.{append-nil, append_assoc, drop-set-lt, length-append, take_more_set}
use Rattle.std.proofs.Math.Seq.{drop-cons}
use Rattle.std.proofs.lemmas.List.Folds.{list_any-append}
use Rattle.std.proofs.lemmas.List.Sums.{fold-append}
use Rattle.gixp_hash.specs.declared.object_id.ObjectId.{ObjectId}
use Rattle.gixp_hash.specs.ObjectId.{id_cmp}
use Rattle.gixp_response.specs.declared.fetch.response.line.Acknowledgement.{Acknowledgement}
use Rattle.gixp_response.specs.declared.fetch.response.line.Acknowledgement.TheVariants.{Common, Ready, Nak}
use Rattle.gixp_capabilities.specs.Capabilities.{is_text}
use Rattle.gixp_response.specs.Answer.{AnswerValue}
use Rattle.gixp_response.specs.Beginnings.{acknowledged, answer_with, is_same_common, with_acknowledgement}
use Rattle.gixp_response.specs.RepeatedCommons.{flagged, named_from, AreNoted, without_repeats}
use Rattle.gixp_utils.specs.Repeats.{is_before, is_repeat, tested_from}
use Rattle.gixp_response.specs.declared.fetch.response.repeats.Repeats.{Repeats}

not_ready : (had : List Acknowledgement) → list_any (λ x. is_same_common x Ready) had ≡ false
not_ready [] = refl
not_ready (Common a ∷ had) = not_ready had
not_ready (Ready ∷ had) = not_ready had
not_ready (Nak ∷ had) = not_ready had

not_nak : (had : List Acknowledgement) → list_any (λ x. is_same_common x Nak) had ≡ false
not_nak [] = refl
not_nak (Common a ∷ had) = not_nak had
not_nak (Ready ∷ had) = not_nak had
not_nak (Nak ∷ had) = not_nak had

same_id : (a b : ObjectId) → is_eq (id_cmp a b) ≡ is_text a.bytes b.bytes
same_id a b = sym (texts_ties a.bytes b.bytes)

-- a consequence for a call that succeeds
pub on_ok : {A E : Type 0} (r : Result A E) {P Q : Type 0} → OnOk r P → (P → Q) → OnOk r Q
on_ok (Ok x) h f = f h
on_ok (Err e) h f = tt

-- ---- recorded acknowledgements, with repeats

pub length_tested : {A : Type 0} (t : ℕ → Bool) (n : ℕ) (xs : List A) → length (tested_from t n xs) ≡ length xs
length_tested t n [] = refl
length_tested t n (x ∷ xs) = ap suc (length_tested t (n + 1) xs)

tested_append : {A : Type 0} (t : ℕ → Bool) (n : ℕ) (xs ys : List A)
    → tested_from t n (xs ++ ys) ≡ tested_from t n xs ++ tested_from t (n + length xs) ys
tested_append t n [] ys = ap (λ m. tested_from t m ys) (omega arith)
tested_append t n (x ∷ xs) ys =
    let same : n + 1 + length xs ≡ n + suc (length xs) = omega arith in
    ap (λ r. t n ∷ r) (tested_append t (n + 1) xs ys ∙ ap (λ m. tested_from t (n + 1) xs ++ tested_from t m ys) same)

named_append : (n : ℕ) (xs ys : List Acknowledgement) → named_from n (xs ++ ys) ≡ named_from n xs ++ named_from (n + length xs) ys
named_append n [] ys = ap (λ m. named_from m ys) (omega arith)
named_append n (Common id ∷ xs) ys =
    let same : n + 1 + length xs ≡ n + suc (length xs) = omega arith in
    ap (λ r. (id, n) ∷ r) (named_append (n + 1) xs ys ∙ ap (λ m. named_from (n + 1) xs ++ named_from m ys) same)
named_append n (Ready ∷ xs) ys =
    let same : n + 1 + length xs ≡ n + suc (length xs) = omega arith in
    named_append (n + 1) xs ys ∙ ap (λ m. named_from (n + 1) xs ++ named_from m ys) same
named_append n (Nak ∷ xs) ys =
    let same : n + 1 + length xs ≡ n + suc (length xs) = omega arith in
    named_append (n + 1) xs ys ∙ ap (λ m. named_from (n + 1) xs ++ named_from m ys) same

-- one more acknowledgement was recorded
pub noted_more : (had : List Acknowledgement) (found : Acknowledgement) (old new : Repeats) → AreNoted had old
    → new.rows.items ≡ old.rows.items ++ named_from (length old.flags.items) (found ∷ [])
    → new.flags.items ≡ old.flags.items ++ true ∷ []
    → AreNoted (had ++ found ∷ []) new
noted_more had found old new h r f =
    let many : length old.flags.items ≡ length had = ap length h.flags ∙ length_tested (λ q. true) 0 had in
    let none : 0 + length had ≡ length had = omega arith in
    record {
      rows = r ∙ ap (λ m. old.rows.items ++ named_from m (found ∷ [])) (many ∙ sym none)
          ∙ ap (λ l. l ++ named_from (0 + length had) (found ∷ [])) h.rows ∙ sym (named_append 0 had (found ∷ []));
      flags = f ∙ ap (λ l. l ++ true ∷ []) h.flags ∙ sym (tested_append (λ q. true) 0 had (found ∷ []));
    }

or_known : (b c : Bool) → (c ≡ true → b ≡ true) → (b || (c || false)) ≡ b
or_known true c h = refl
or_known false true h = absurd (let x = h refl in cc)
or_known false false h = refl

and_no : (b : Bool) → ((b && false) || false) ≡ false
and_no true = refl
and_no false = refl

and_yes : (b : Bool) → (b && true) ≡ b
and_yes true = refl
and_yes false = refl

common_trans : (x a b : Acknowledgement) → is_same_common x a ≡ true → is_same_common a b ≡ true → is_same_common x b ≡ true
common_trans (Common x) (Common a) (Common b) h k =
    nat_list_eq_equiv.congr x.bytes a.bytes b.bytes h ∙ k
common_trans (Common x) (Common a) Ready h k = cc
common_trans (Common x) (Common a) Nak h k = cc
common_trans (Common x) Ready b h k = cc
common_trans (Common x) Nak b h k = cc
common_trans Ready a b h k = cc
common_trans Nak a b h k = cc

places_differ : (row : ObjectId × ℕ) (n : ℕ) (had : List Acknowledgement) → row.1 < n
    → AllByRecursion (λ later. (row.1 == later.1) ≡ false) (named_from n had)
places_differ row n [] l = tt
places_differ row n (Common id ∷ had) l = ((grind arith), places_differ row (n + 1) had (omega arith))
places_differ row n (Ready ∷ had) l = places_differ row (n + 1) had (omega arith)
places_differ row n (Nak ∷ had) l = places_differ row (n + 1) had (omega arith)

-- no two rows have the same position
pub named_apart : (n : ℕ) (had : List Acknowledgement) → IsDistinct (λ a b. a.1 == b.1) (named_from n had)
unfolding IsDistinct
named_apart n [] = tt
named_apart n (Common id ∷ had) = (places_differ (id, n) (n + 1) had (omega arith), named_apart (n + 1) had)
named_apart n (Ready ∷ had) = named_apart (n + 1) had
named_apart n (Nak ∷ had) = named_apart (n + 1) had

-- ---- the repeats among them

-- the test of a row, for an acknowledgement
abbrev passes : (ObjectId → Bool) → Acknowledgement → Bool
passes test (Common id) = test id
passes test Ready = false
passes test Nak = false

none_here : (test : ObjectId → Bool) (p n : ℕ) (had : List Acknowledgement) → p < n
    → list_any (λ row. (row.1 == p) && test row.0) (named_from n had) ≡ false
none_here test p n [] l = refl
none_here test p n (Common id ∷ had) l =
    let other : (n == p) ≡ false = grind arith in rw other (none_here test p (n + 1) had (omega arith))
none_here test p n (Ready ∷ had) l = none_here test p (n + 1) had (omega arith)
none_here test p n (Nak ∷ had) l = none_here test p (n + 1) had (omega arith)

or_none : (b : Bool) → (b || false) ≡ b
or_none true = refl
or_none false = refl

-- a position has the row of its acknowledgement
one_here : (test : ObjectId → Bool) (p n : ℕ) (done : List Acknowledgement) (a : Acknowledgement) (more : List Acknowledgement)
    → p ≡ n + length done → list_any (λ row. (row.1 == p) && test row.0) (named_from n (done ++ a ∷ more)) ≡ passes test a
one_here test p n [] (Common id) more e =
    let here : (n == p) ≡ true = grind arith in
    rw (here, none_here test p (n + 1) more (omega arith)) (or_none (test id))
one_here test p n [] Ready more e = none_here test p (n + 1) more (omega arith)
one_here test p n [] Nak more e = none_here test p (n + 1) more (omega arith)
one_here test p n (Common id ∷ done) a more e =
    let other : (n == p) ≡ false = grind arith in rw other (one_here test p (n + 1) done a more (omega arith))
one_here test p n (Ready ∷ done) a more e = one_here test p (n + 1) done a more (omega arith)
one_here test p n (Nak ∷ done) a more e = one_here test p (n + 1) done a more (omega arith)

none_before : (id : ObjectId) (p n : ℕ) (had : List Acknowledgement) → p ≤ n → is_before id_cmp (named_from n had) id p ≡ false
none_before id p n [] l = refl
none_before id p n (Common q ∷ had) l =
    let later : nat_lt n p ≡ false = grind arith in
    rw (later, none_before id p (n + 1) had (omega arith)) (and_no (eq_by_cmp id_cmp q id))
none_before id p n (Ready ∷ had) l = none_before id p (n + 1) had (omega arith)
none_before id p n (Nak ∷ had) l = none_before id p (n + 1) had (omega arith)

-- a commit occurs before a position if an earlier acknowledgement names it
before_is : (id : ObjectId) (p n : ℕ) (done more : List Acknowledgement) → p ≡ n + length done
    → is_before id_cmp (named_from n (done ++ more)) id p ≡ list_any (λ x. is_same_common x (Common id)) done
before_is id p n [] more e = none_before id p n more (omega arith)
before_is id p n (Common q ∷ done) more e =
    let earlier : nat_lt n p ≡ true = grind arith in
    rw (earlier, before_is id p (n + 1) done more (omega arith), and_yes (eq_by_cmp id_cmp q id), same_id q id) refl
before_is id p n (Ready ∷ done) more e = before_is id p (n + 1) done more (omega arith)
before_is id p n (Nak ∷ done) more e = before_is id p (n + 1) done more (omega arith)

passes_same : (had : List Acknowledgement) (a : Acknowledgement)
    → passes (λ id. list_any (λ x. is_same_common x (Common id)) had) a ≡ list_any (λ x. is_same_common x a) had
passes_same had (Common id) = refl
passes_same had Ready = sym (not_ready had)
passes_same had Nak = sym (not_nak had)

passes_alike : (t s : ObjectId → Bool) (a : Acknowledgement) → ((id : ObjectId) → t id ≡ s id) → passes t a ≡ passes s a
passes_alike t s (Common id) h = h id
passes_alike t s Ready h = refl
passes_alike t s Nak h = refl

-- a position is a repeat if an earlier acknowledgement names its commit
repeat_is : (all done : List Acknowledgement) (a : Acknowledgement) (more : List Acknowledgement) → all ≡ done ++ a ∷ more
    → is_repeat id_cmp (named_from 0 all) (length done) ≡ list_any (λ x. is_same_common x a) done
repeat_is all done a more e =
    let place : length done ≡ 0 + length done = omega arith in
    ap (λ l. is_repeat id_cmp (named_from 0 l) (length done)) e
    ∙ one_here (λ id. is_before id_cmp (named_from 0 (done ++ a ∷ more)) id (length done)) (length done) 0 done a more place
    ∙ passes_alike _ _ a (λ id. before_is id (length done) 0 done (a ∷ more) place)
    ∙ passes_same done a

-- an acknowledgement that names a commit again adds nothing
same_again : (a b : Acknowledgement) (had : List Acknowledgement) → list_any (λ x. is_same_common x a) had ≡ true
    → is_same_common a b ≡ true → list_any (λ x. is_same_common x b) had ≡ true
same_again a b [] h e = h
same_again a b (x ∷ had) h e = elim (or_cases (is_same_common x a) (list_any (λ y. is_same_common y a) had) h) [
  | inl here ↦ or_left _ _ (common_trans x a b here e)
  | inr later ↦ or_right _ _ (same_again a b had later e)
]

-- the elements whose flag is true, after those that are kept
kept_from : (all done more had : List Acknowledgement) → all ≡ done ++ more
    → ((a : Acknowledgement) → list_any (λ x. is_same_common x a) had ≡ list_any (λ x. is_same_common x a) done)
    → had ++ flagged more (tested_from (λ q. not (is_repeat id_cmp (named_from 0 all) q)) (length done) more)
    ≡ fold with_acknowledgement had more
kept_from all done [] had e h = append-nil had
kept_from all done (a ∷ more) had e h =
    let s = list_any (λ x. is_same_common x a) done in
    let place : length (done ++ a ∷ []) ≡ length done + 1 = length-append done (a ∷ []) in
    let parts : all ≡ (done ++ a ∷ []) ++ more = e ∙ sym (append_assoc done (a ∷ []) more) in
    let flag : not (is_repeat id_cmp (named_from 0 all) (length done)) ≡ not s = ap not (repeat_is all done a more e) in
    let rest : (kept : List Acknowledgement)
    → ((b : Acknowledgement) → list_any (λ x. is_same_common x b) kept ≡ list_any (λ x. is_same_common x b) (done ++ a ∷ []))
    → kept ++ flagged more (tested_from (λ q. not (is_repeat id_cmp (named_from 0 all) q)) (length done + 1) more)
    ≡ fold with_acknowledgement kept more =
    λ kept k. ap (λ m. kept ++ flagged more (tested_from (λ q. not (is_repeat id_cmp (named_from 0 all) q)) m more)) (sym place)
    ∙ kept_from all (done ++ a ∷ []) more kept parts k in
    elim (cases_Bool s) [
      | inl was ↦ (
          let same = h a ∙ was in
          rw (flag, was, same) (rest had (λ b. h b ∙ sym (list_any-append (λ x. is_same_common x b) done (a ∷ [])
          ∙ or_known _ _ (λ t. same_again a b done was t)))))
      | inr new ↦ (
          let other = h a ∙ new in
          rw (flag, new, other) (sym (append_assoc had (a ∷ []) _)
          ∙ rest (had ++ a ∷ []) (λ b. list_any-append (λ x. is_same_common x b) had (a ∷ [])
          ∙ ap (λ y. y || (is_same_common a b || false)) (h b) ∙ sym (list_any-append (λ x. is_same_common x b) done (a ∷ [])))))
    ]

-- the elements whose flag is true name each commit once
pub flagged_once : (all : List Acknowledgement)
    → flagged all (tested_from (λ q. not (is_repeat id_cmp (named_from 0 all) q)) 0 all) ≡ fold with_acknowledgement [] all
flagged_once all = kept_from all [] all [] refl (λ a. refl)

-- one more acknowledgement, with and without repeats
pub answer_more : (answer : AnswerValue) (found : Acknowledgement)
    → without_repeats (record answer { acknowledgements = answer.acknowledgements ++ found ∷ [] })
    ≡ answer_with (without_repeats answer) (acknowledged found)
answer_more answer found =
    ap (λ acks. record answer { acknowledgements = acks }) (fold-append with_acknowledgement [] answer.acknowledgements (found ∷ []))

-- ---- elements that are moved to the front

pub one_passed : {X : Type 0} (xs : List X) (at : ℕ) (flags : List Bool) → at < length xs
    → flagged (drop (at + 1) xs) flags ≡ flagged (drop at xs) (false ∷ flags)
one_passed [] at flags l = absurd (omega arith)
one_passed (x ∷ xs) zero flags l = refl
one_passed (x ∷ xs) (suc at) flags l =
    let same : suc (at + 1) ≡ suc at + 1 = omega arith in
    subst (λ m. flagged (drop m (x ∷ xs)) flags ≡ flagged (drop at xs) (false ∷ flags)) same (one_passed xs at flags (omega arith))

one_here_kept : {X : Type 0} (xs : List X) (at : ℕ) (d : X) (flags : List Bool) → at < length xs
    → flagged (drop at xs) (true ∷ flags) ≡ get_or xs at d ∷ flagged (drop (at + 1) xs) flags
one_here_kept [] at d flags l = absurd (omega arith)
one_here_kept (x ∷ xs) zero d flags l = refl
one_here_kept (x ∷ xs) (suc at) d flags l =
    let same : suc (at + 1) ≡ suc at + 1 = omega arith in
    subst (λ m. flagged (drop at xs) (true ∷ flags) ≡ get_or xs at d ∷ flagged (drop m (x ∷ xs)) flags) same
    (one_here_kept xs at d flags (omega arith))

pub one_kept : {X : Type 0} (xs : List X) (kept at : ℕ) (x : X) (flags : List Bool) → kept ≤ at → at < length xs → x ≡ get_or xs at x
    → take (kept + 1) (slice_set xs kept x) ++ flagged (drop (at + 1) (slice_set xs kept x)) flags
    ≡ take kept xs ++ flagged (drop at xs) (true ∷ flags)
one_kept xs kept at x flags k l is =
    ap (λ ys. ys ++ flagged (drop (at + 1) (slice_set xs kept x)) flags) (take_more_set xs kept x (omega arith))
    ∙ ap (λ ys. (take kept xs ++ x ∷ []) ++ flagged ys flags) (drop-set-lt (at + 1) xs kept x (omega arith))
    ∙ append_assoc (take kept xs) (x ∷ []) _
    ∙ ap (λ y. take kept xs ++ y ∷ flagged (drop (at + 1) xs) flags) is
    ∙ ap (λ ys. take kept xs ++ ys) (sym (one_here_kept xs at x flags l))

pub drop_one : {X : Type 0} (xs : List X) (at : ℕ) (d : X) → at < length xs → drop at xs ≡ get_or xs at d ∷ drop (at + 1) xs
drop_one xs at d l =
    let same : suc at ≡ at + 1 = omega arith in
    subst (λ m. drop at xs ≡ get_or xs at d ∷ drop m xs) same (drop-cons xs at d l)
