-- The invariant of a queue and its count.
use Rattle.std.proofs.Common.{◌≡◌, ℕ, ℤ, ◌+◌, ◌-◌, ◌≤◌, ◌∙◌, ◌&&◌, not, ◌⊎◌, inl, inr, ⊎_elim, Bool, true, false, cond, List, [], ◌∷◌, Option, Some, None, refl, sym, ap, subst, arith, true≢false}
use Rattle.std.specs.Prelude.{◌≤ℤ◌, pos, is_some, option_map, Contains}
use Rattle.std.specs.FinMap as finite
use Rattle.std.specs.List.Sorted.{IsPermutation}
use Rattle.std.specs.Ordering.{eq_by_cmp}
use Rattle.std.proofs.lemmas.Bool.{or_cases, or_left}
use Rattle.std.proofs.lemmas.Grind.{common_steps}
use Rattle.std.proofs.lemmas.Int.{ints}
use Rattle.std.proofs.lemmas.List.Elements.{All-cons, All-tail, All-head, All-weaker, All-contains, All-contains_itself}
use Rattle.std.proofs.lemmas.List.Sorted.{All-permutation, sum_by-IsPermutation}
use Rattle.gixp_hash.specs.declared.object_id.ObjectId.{ObjectId}
use Rattle.gixp_hash.specs.ObjectId.{id_cmp}
use Rattle.gixp_graph.specs.declared.flags.Flags.{Flags}
use Rattle.gixp_graph.specs.Object.{Objects, time_at}
use Rattle.gixp_graph.specs.GraphData.{HeldCommit, Commits, GraphData, shown}
use Rattle.gixp_graph.specs.GraphLaws.{same_from}
use Rattle.gixp_negotiators.specs.declared.queue.Waiting.{Waiting}
use Rattle.gixp_negotiators.specs.Marks.{COMMON, SEEN, POPPED, has_all, has_mark}
use Rattle.gixp_negotiators.specs.AddedMarks.{Grows, AddsNone, AddsOnly, SeesNone, SeesOnly, MarksNoCommon, MarksCommonOnly, PopsNone, PopsOnly}
use Rattle.gixp_negotiators.specs.CommitMarks.{Claims}
use Rattle.gixp_negotiators.specs.Queued.{waits_of, queued_one, open_one, open_in, Fits, FitsSeen, KeepsCount, AllCommon}
use Rattle.gixp_negotiators.specs.Newest.{KeepsQueue, KeepsTimed, AllTimed, NoneNewer, IsNewestWaiting, IsNewestAt}
use Rattle.gixp_negotiators.specs.Dated.{IsNewestIn, IsDated, QueuesNew}
use Rattle.gixp_negotiators.proofs.GrowLemmas.{same_id, grows_on}

-- a commit that lacks a mark after a step lacked it before
pub lacked : (a b : Bool) → (a ≡ true → b ≡ true) → b ≡ false → a ≡ false
lacked true b k e = absurd (true≢false (sym (k refl) ∙ e))
lacked false b k e = refl

pub same_mark : (a b : Bool) → (a ≡ true → b ≡ true) → (b ≡ true → a ≡ true) → a ≡ b
same_mark true b k l = sym (k refl)
same_mark false true k l = l refl
same_mark false false k l = refl

-- a mark that no commit gets stays where it was
pub same_none : (b : ℕ) (g h : GraphData) → Grows g h → AddsNone b g h → (q : ObjectId) → has_mark b h.held q ≡ has_mark b g.held q
same_none b g h w s q = same_mark (has_mark b h.held q) (has_mark b g.held q) (s q) (w.marks b q)

flip : (q id : ObjectId) → eq_by_cmp id_cmp q id ≡ true → eq_by_cmp id_cmp id q ≡ true
flip q id e = subst (λ k. eq_by_cmp id_cmp id k ≡ true) (sym (same_from q id e)) (same_id id)

-- a mark that only one commit gets stays where it was elsewhere
pub same_only : (b : ℕ) (one : ObjectId) (g h : GraphData) → Grows g h → AddsOnly b one g h → (q : ObjectId)
    → eq_by_cmp id_cmp q one ≡ false → has_mark b h.held q ≡ has_mark b g.held q
same_only b one g h w s q other = same_mark (has_mark b h.held q) (has_mark b g.held q)
    (λ m. ⊎_elim (λ e. e) (λ e. absurd (true≢false (sym e ∙ other))) (or_cases (has_mark b g.held q) (eq_by_cmp id_cmp q one) (s q m)))
    (w.marks b q)

-- ---- how many queued commits aren't common

pub at_most_one : (b : Bool) → cond {A = ℕ} b 0 1 ≤ 1
at_most_one true = omega arith
at_most_one false = omega arith

-- its equation
open_cons : (m : Commits) (w : Waiting) (ws : List Waiting) → open_in m (w ∷ ws) ≡ open_one m w.id + open_in m ws
unfolding open_in
open_cons m w ws = grind (arith, common_steps)

open_nil : (m : Commits) → open_in m [] ≡ 0
unfolding open_in
open_nil m = refl

-- whether a queue entry is of this commit
abbrev waits_one : Waiting → ObjectId → ℕ
waits_one w id = cond {A = ℕ} (eq_by_cmp id_cmp id w.id) 1 0

waits_cons : (w : Waiting) (ws : List Waiting) (id : ObjectId) → waits_of (w ∷ ws) id ≡ waits_one w id + waits_of ws id
unfolding waits_of
waits_cons w ws id = grind (arith, common_steps)

waits_nil : (id : ObjectId) → waits_of [] id ≡ 0
unfolding waits_of
waits_nil id = refl

-- their number stays the same where none becomes common
pub open_kept : (g h : GraphData) → ((q : ObjectId) → has_mark COMMON h.held q ≡ has_mark COMMON g.held q) → (ws : List Waiting)
    → open_in h.held ws ≡ open_in g.held ws
open_kept g h same [] = omega (arith, open_nil h.held, open_nil g.held)
open_kept g h same (x ∷ xs) =
    let one : ◌≡◌ {A = ℕ} (open_one h.held x.id) (open_one g.held x.id) = ap (λ c. cond {A = ℕ} c 0 1) (same x.id) in
    omega (arith, open_cons h.held x xs, open_cons g.held x xs, open_kept g h same xs)

-- a commit that becomes common lowers their number, as often as it is queued
pub open_settled : (g h : GraphData) → Grows g h → (id : ObjectId) → MarksCommonOnly id g h → has_mark COMMON g.held id ≡ false
    → has_mark COMMON h.held id ≡ true → (ws : List Waiting) → open_in h.held ws + waits_of ws id ≡ open_in g.held ws
open_settled g h w id only a b [] = omega (arith, open_nil h.held, open_nil g.held, waits_nil id)
open_settled g h w id only a b (x ∷ xs) = at (eq_by_cmp id_cmp id x.id) refl (open_settled g h w id only a b xs)
  where
    at : (c : Bool) → eq_by_cmp id_cmp id x.id ≡ c → open_in h.held xs + waits_of xs id ≡ open_in g.held xs → open_in h.held
        (x ∷ xs) + waits_of (x ∷ xs) id ≡ open_in g.held (x ∷ xs)
    at true e rest =
        let same : id ≡ x.id = same_from id x.id e in
        let none : ◌≡◌ {A = ℕ} (open_one h.held x.id) 0 = ap (λ c. cond {A = ℕ} c 0 1) (subst (λ i. has_mark COMMON h.held i ≡ true) same
        b) in
        let one : ◌≡◌ {A = ℕ} (open_one g.held x.id) 1 = ap (λ c. cond {A = ℕ} c 0 1) (subst (λ i. has_mark COMMON g.held i ≡ false) same
        a) in
        let here : ◌≡◌ {A = ℕ} (waits_one x id) 1 = ap (λ c. cond {A = ℕ} c 1 0) e in
        omega (arith, open_cons h.held x xs, open_cons g.held x xs, waits_cons x xs id, rest)
    at false e rest =
        let other : eq_by_cmp id_cmp x.id id ≡ false = lacked (eq_by_cmp id_cmp x.id id) (eq_by_cmp id_cmp id x.id) (flip x.id id) e in
        let one : ◌≡◌ {A = ℕ} (open_one h.held x.id) (open_one g.held x.id) =
        ap (λ c. cond {A = ℕ} c 0 1) (same_only COMMON id g h w only x.id other) in
        let here : ◌≡◌ {A = ℕ} (waits_one x id) 0 = ap (λ c. cond {A = ℕ} c 1 0) e in
        omega (arith, open_cons h.held x xs, open_cons g.held x xs, waits_cons x xs id, rest)

-- a commit that isn't queued may become common
pub open_apart : (g h : GraphData) → Grows g h → (id : ObjectId) → MarksCommonOnly id g h → (ws : List Waiting) → waits_of ws id ≡ 0
    → open_in h.held ws ≡ open_in g.held ws
open_apart g h w id only [] none = omega (arith, open_nil h.held, open_nil g.held)
open_apart g h w id only (x ∷ xs) none = at (eq_by_cmp id_cmp id x.id) refl (open_apart g h w id only xs)
  where
    at : (c : Bool) → eq_by_cmp id_cmp id x.id ≡ c → (waits_of xs id ≡ 0 → open_in h.held xs ≡ open_in g.held xs)
        → open_in h.held (x ∷ xs) ≡ open_in g.held (x ∷ xs)
    at true e more =
        let here : ◌≡◌ {A = ℕ} (waits_one x id) 1 = ap (λ c. cond {A = ℕ} c 1 0) e in
        absurd (omega (arith, waits_cons x xs id, none))
    at false e more =
        let other : eq_by_cmp id_cmp x.id id ≡ false = lacked (eq_by_cmp id_cmp x.id id) (eq_by_cmp id_cmp id x.id) (flip x.id id) e in
        let one : ◌≡◌ {A = ℕ} (open_one h.held x.id) (open_one g.held x.id) =
        ap (λ c. cond {A = ℕ} c 0 1) (same_only COMMON id g h w only x.id other) in
        let rest : waits_of xs id ≡ 0 = omega (arith, waits_cons x xs id, none) in
        omega (arith, open_cons h.held x xs, open_cons g.held x xs, more rest)

-- their number doesn't depend on the order
pub open_moved : (m : Commits) (ws xs : List Waiting) → IsPermutation ws xs → open_in m xs ≡ open_in m ws
unfolding open_in
open_moved m ws xs p = sum_by-IsPermutation (λ (w : Waiting). open_one m w.id) ws xs p

pub waits_moved : (id : ObjectId) (ws xs : List Waiting) → IsPermutation ws xs → waits_of xs id ≡ waits_of ws id
unfolding waits_of
waits_moved id ws xs p = sum_by-IsPermutation (λ (w : Waiting). waits_one w id) ws xs p

-- ---- steps keep the invariant

-- how often a commit has to be queued follows from two marks
pub same_queued : (g h : GraphData) (q : ObjectId) → has_mark SEEN h.held q ≡ has_mark SEEN g.held q
    → has_mark POPPED h.held q ≡ has_mark POPPED g.held q
    → queued_one g.held q ≡ queued_one h.held q
same_queued g h q a b = sym (ap (λ c. cond {A = ℕ} (c && not (has_mark POPPED h.held q)) 1 0) a
    ∙ ap (λ c. cond {A = ℕ} (has_mark SEEN g.held q && not c) 1 0) b)

queued_at : (a b : Bool) → a ≡ true → b ≡ false → cond {A = ℕ} (a && not b) 1 0 ≡ 1
queued_at a b e f = ap (λ c. cond {A = ℕ} (c && not b) 1 0) e ∙ ap (λ c. cond {A = ℕ} (not c) 1 0) f

unseen_at : (a b : Bool) → a ≡ false → cond {A = ℕ} (a && not b) 1 0 ≡ 0
unseen_at a b e = ap (λ c. cond {A = ℕ} (c && not b) 1 0) e

spent_at : (a b : Bool) → b ≡ true → cond {A = ℕ} (a && not b) 1 0 ≡ 0
spent_at true b e = ap (λ c. cond {A = ℕ} (not c) 1 0) e
spent_at false b e = refl

seen_at : (a b : Bool) → 1 ≤ cond {A = ℕ} (a && not b) 1 0 → a ≡ true
seen_at true b l = refl
seen_at false b l = absurd (omega (arith, l))

left_at : (a b : Bool) → 1 ≤ cond {A = ℕ} (a && not b) 1 0 → b ≡ false
left_at true true l = absurd (omega (arith, l))
left_at true false l = refl
left_at false b l = absurd (omega (arith, l))

once_at : (a b : Bool) → cond {A = ℕ} (a && not b) 1 0 ≤ 1
once_at true true = omega arith
once_at true false = omega arith
once_at false b = omega arith

-- a commit that was seen and not taken is queued once
pub queued : (m : Commits) (id : ObjectId) → has_mark SEEN m id ≡ true → has_mark POPPED m id ≡ false → queued_one m id ≡ 1
queued m id a b = queued_at (has_mark SEEN m id) (has_mark POPPED m id) a b

-- a commit that wasn't seen isn't queued
pub unqueued : (m : Commits) (id : ObjectId) → has_mark SEEN m id ≡ false → queued_one m id ≡ 0
unqueued m id a = unseen_at (has_mark SEEN m id) (has_mark POPPED m id) a

pub spent : (m : Commits) (id : ObjectId) → has_mark POPPED m id ≡ true → queued_one m id ≡ 0
spent m id b = spent_at (has_mark SEEN m id) (has_mark POPPED m id) b

-- a queued commit was seen and not taken
first_waits : (ws : List Waiting) (g : GraphData) (first : Waiting) → ((id : ObjectId) → waits_of (first ∷ ws) id ≡ queued_one g.held id)
    → 1 ≤ queued_one g.held first.id
first_waits ws g first waiting =
    let here : ◌≡◌ {A = ℕ} (waits_one first first.id) 1 = ap (λ c. cond {A = ℕ} c 1 0) (same_id first.id) in
    omega (arith, waits_cons first ws first.id, waiting first.id)

pub first_seen : (ws : List Waiting) (g : GraphData) (first : Waiting)
    → ((id : ObjectId) → waits_of (first ∷ ws) id ≡ queued_one g.held id) → has_mark SEEN g.held first.id ≡ true
first_seen ws g first waiting = seen_at (has_mark SEEN g.held first.id) (has_mark POPPED g.held first.id) (first_waits ws g first waiting)

pub first_left : (ws : List Waiting) (g : GraphData) (first : Waiting)
    → ((id : ObjectId) → waits_of (first ∷ ws) id ≡ queued_one g.held id) → has_mark POPPED g.held first.id ≡ false
first_left ws g first waiting = left_at (has_mark SEEN g.held first.id) (has_mark POPPED g.held first.id) (first_waits ws g first waiting)

-- marks are added that don't count
pub fits_grown : (lost u : ℕ) (ws : List Waiting) (g h : GraphData) → Grows g h → SeesNone g h → MarksNoCommon g h → PopsNone g h
    → Fits lost u ws g → Fits lost u ws h
fits_grown lost u ws g h w s c p f = record {
  waiting = λ id. f.waiting id ∙ same_queued g h id (same_none SEEN g h w s id) (same_none POPPED g h w p id);
  taken = λ id t. w.marks SEEN id (f.taken id (p id t));
  counted = omega (arith, f.counted, open_kept g h (same_none COMMON g h w c) ws);
}

-- a commit becomes common, and isn't counted any more where it is queued
pub fits_common : (lost u v : ℕ) (ws : List Waiting) (g h : GraphData) (id : ObjectId) → Grows g h → SeesNone g h → PopsNone g h
    → MarksCommonOnly id g h → has_mark COMMON g.held id ≡ false → has_mark COMMON h.held id ≡ true → v ≡ u - queued_one g.held id
    → Fits lost u ws g → Fits lost v ws h
fits_common lost u v ws g h id w s p only before after is f = record {
  waiting = λ q. f.waiting q ∙ same_queued g h q (same_none SEEN g h w s q) (same_none POPPED g h w p q);
  taken = λ q t. w.marks SEEN q (f.taken q (p q t));
  counted = omega (arith, f.counted, is, open_settled g h w id only before after ws, f.waiting id);
}

-- a commit is queued
pub fits_pushed : (lost u v : ℕ) (ws xs : List Waiting) (g h : GraphData) (new : Waiting) → Grows g h → SeesOnly new.id g h
    → PopsNone g h → MarksCommonOnly new.id g h → has_mark SEEN g.held new.id ≡ false → has_mark SEEN h.held new.id ≡ true
    → IsPermutation (new ∷ ws) xs → v ≡ u + open_one h.held new.id → Fits lost u ws g → Fits lost v xs h
fits_pushed lost u v ws xs g h new w s p only before after m is f = record {
  waiting = λ id. waits_moved id (new ∷ ws) xs m ∙ at id (eq_by_cmp id_cmp id new.id) refl;
  taken = λ id t. w.marks SEEN id (f.taken id (p id t));
  counted =
      let none : waits_of ws new.id ≡ 0 = f.waiting new.id ∙ unqueued g.held new.id before in
      omega (arith, f.counted, is, open_moved h.held (new ∷ ws) xs m, open_cons h.held new ws, open_apart g h w new.id only ws none);
}
  where
    at : (id : ObjectId) (c : Bool) → eq_by_cmp id_cmp id new.id ≡ c → waits_of (new ∷ ws) id ≡ queued_one h.held id
    at id true e =
        let same : id ≡ new.id = same_from id new.id e in
        let unseen : has_mark SEEN g.held id ≡ false = subst (λ i. has_mark SEEN g.held i ≡ false) (sym same) before in
        let seen : has_mark SEEN h.held id ≡ true = subst (λ i. has_mark SEEN h.held i ≡ true) (sym same) after in
        let free : has_mark POPPED h.held id ≡ false = lacked (has_mark POPPED h.held id) (has_mark SEEN g.held id) (λ t. f.taken id
        (p id t)) unseen in
        let here : ◌≡◌ {A = ℕ} (waits_one new id) 1 = ap (λ c. cond {A = ℕ} c 1 0) e in
        let none : waits_of ws id ≡ 0 = f.waiting id ∙ unqueued g.held id unseen in
        omega (arith, waits_cons new ws id, queued h.held id seen free)
    at id false e =
        let here : ◌≡◌ {A = ℕ} (waits_one new id) 0 = ap (λ c. cond {A = ℕ} c 1 0) e in
        omega (
          arith,
          waits_cons new ws id,
          f.waiting id,
          same_queued g h id (same_only SEEN new.id g h w s id e) (same_none POPPED g h w p id),
        )

-- the first commit is taken
pub fits_taken : (lost u v : ℕ) (ws : List Waiting) (g h : GraphData) (first : Waiting) → Grows g h → SeesNone g h → MarksNoCommon g h
    → PopsOnly first.id g h → has_mark POPPED h.held first.id ≡ true → v ≡ u - open_one g.held first.id
    → Fits lost u (first ∷ ws) g → Fits lost v ws h
fits_taken lost u v ws g h first w s c p after is f = record {
  waiting = λ id. at id (eq_by_cmp id_cmp id first.id) refl;
  taken = λ id t. ⊎_elim (λ was. w.marks SEEN id (f.taken id was))
      (λ e. w.marks SEEN id (subst (λ i. has_mark SEEN g.held i ≡ true) (sym (same_from id first.id e)) (first_seen ws g first f.waiting)))
      (or_cases (has_mark POPPED g.held id) (eq_by_cmp id_cmp id first.id) (p id t));
  counted = omega (arith, f.counted, is, open_cons g.held first ws, open_kept g h (same_none COMMON g h w c) ws);
}
  where
    at : (id : ObjectId) (c : Bool) → eq_by_cmp id_cmp id first.id ≡ c → waits_of ws id ≡ queued_one h.held id
    at id true e =
        let popped : has_mark POPPED h.held id ≡ true = subst (λ i. has_mark POPPED h.held i ≡ true) (sym
        (same_from id first.id e)) after in
        let here : ◌≡◌ {A = ℕ} (waits_one first id) 1 = ap (λ c. cond {A = ℕ} c 1 0) e in
        omega (
          arith,
          waits_cons first ws id,
          f.waiting id,
          once_at (has_mark SEEN g.held id) (has_mark POPPED g.held id),
          spent h.held id
              popped,
        )
    at id false e =
        let here : ◌≡◌ {A = ℕ} (waits_one first id) 0 = ap (λ c. cond {A = ℕ} c 1 0) e in
        omega (
          arith,
          waits_cons first ws id,
          f.waiting id,
          same_queued g h id (same_none SEEN g h w s id) (same_only POPPED first.id g h w p id e),
        )

-- a commit that had been taken isn't queued
pub fits_spent : (lost u v : ℕ) (ws : List Waiting) (g h : GraphData) (first : Waiting) → Grows g h → PopsNone g h
    → (has_mark SEEN h.held first.id ≡ true → has_mark POPPED h.held first.id ≡ true) → Fits lost u (first ∷ ws) g → Fits lost v ws h
fits_spent lost u v ws g h first w p taken f = absurd (true≢false
    (sym (p first.id (taken (w.marks SEEN first.id (first_seen ws g first f.waiting)))) ∙ first_left ws g first f.waiting))

-- ---- a step queues only commits that weren't seen

pub order_pushed : (ws xs : List Waiting) (g : GraphData) (new : Waiting) → has_mark SEEN g.held new.id ≡ false
    → IsPermutation (new ∷ ws) xs → (f : GraphData) (time : ℤ) → Grows f g → NoneNewer time f ws → NoneNewer time f xs
order_pushed ws xs g new unseen p f time w all =
    All-permutation (λ (x : Waiting). has_mark SEEN f.held x.id ≡ true → x.time ≤ℤ time) (new ∷ ws) xs p
    (All-cons (λ (x : Waiting). has_mark SEEN f.held x.id ≡ true → x.time ≤ℤ time) new ws
    (λ e. absurd (true≢false (sym (w.marks SEEN new.id e) ∙ unseen))) all)

pub times_pushed : (ws xs : List Waiting) (objects : Objects) (new : Waiting) → time_at objects new.id ≡ Some new.time
    → IsPermutation (new ∷ ws) xs → AllTimed objects ws → AllTimed objects xs
times_pushed ws xs objects new is p all =
    All-permutation (λ (x : Waiting). time_at objects x.id ≡ Some x.time) (new ∷ ws) xs p
    (All-cons (λ (x : Waiting). time_at objects x.id ≡ Some x.time) new ws is all)

-- ---- steps

pub keeps_none : (u : ℕ) (ws : List Waiting) (g : GraphData) → KeepsQueue u ws g u ws g
keeps_none u ws g = record { fits = λ f. f; order = λ f time w all. all }

pub keeps_on : (u v r : ℕ) (ws xs ys : List Waiting) (g h k : GraphData) → Grows g h → KeepsQueue u ws g v xs h → KeepsQueue v xs h r ys k
    → KeepsQueue u ws g r ys k
keeps_on u v r ws xs ys g h k w a b = record {
  fits = λ f. b.fits (a.fits f);
  order = λ f time z all. b.order f time (grows_on f g h z w) (a.order f time z all);
}

-- the first commit is separated from the others
pub fits_popped : (lost u : ℕ) (ws xs : List Waiting) (g : GraphData) (first : Waiting) → IsPermutation ws (first ∷ xs)
    → Fits lost u ws g → Fits lost u (first ∷ xs) g
fits_popped lost u ws xs g first p f = record {
  waiting = λ id. waits_moved id ws (first ∷ xs) p ∙ f.waiting id;
  taken = f.taken;
  counted = omega (arith, f.counted, open_moved g.held ws (first ∷ xs) p);
}

pub keeps_popped : (u : ℕ) (ws xs : List Waiting) (g : GraphData) (first : Waiting) → IsPermutation ws (first ∷ xs)
    → KeepsQueue u ws g u (first ∷ xs) g
keeps_popped u ws xs g first p = record {
  fits = fits_popped 0 u ws xs g first p;
  order = λ f time w all. All-permutation (λ (x : Waiting). has_mark SEEN f.held x.id ≡ true → x.time ≤ℤ time) ws (first ∷ xs) p all;
}

-- ---- an end

-- where no commit is counted, all are common
common_at : (m : Commits) (ws : List Waiting) → open_in m ws ≤ 0 → (id : ObjectId) → 1 ≤ waits_of ws id → has_mark COMMON m id ≡ true
common_at m [] le id e = absurd (omega (arith, e, waits_nil id))
common_at m (x ∷ xs) le id e = at (eq_by_cmp id_cmp id x.id) refl (common_at m xs)
  where
    is_zero : (b : Bool) → cond {A = ℕ} b 0 1 ≤ 0 → b ≡ true
    is_zero true le = refl
    is_zero false le = absurd (omega (arith, le))

    at : (c : Bool) → eq_by_cmp id_cmp id x.id ≡ c
        → (open_in m xs ≤ 0 → (q : ObjectId) → 1 ≤ waits_of xs q → has_mark COMMON m q ≡ true) → has_mark COMMON m id ≡ true
    at true is more = subst (λ i. has_mark COMMON m i ≡ true) (sym (same_from id x.id is))
        (is_zero (has_mark COMMON m x.id) (omega (arith, open_cons m x xs, le)))
    at false is more =
        let here : ◌≡◌ {A = ℕ} (waits_one x id) 0 = ap (λ c. cond {A = ℕ} c 1 0) is in
        more (omega (arith, open_cons m x xs, le)) id (omega (arith, e, waits_cons x xs id))

pub none_open : (lost : ℕ) (ws : List Waiting) (g : GraphData) → Fits lost 0 ws g → AllCommon g
none_open lost ws g f = λ id seen kept. common_at g.held ws (omega (arith, f.counted)) id
    (omega (arith, f.waiting id, queued g.held id seen kept))

pub none_waits : (lost u : ℕ) (ws : List Waiting) (g : GraphData) → ws ≡ [] → Fits lost u ws g → AllCommon g
none_waits lost u ws g e f = λ id seen kept. absurd (let none : waits_of ws id ≡ 0 = ap (λ xs. waits_of xs id) e ∙ waits_nil id in
    omega (arith, f.waiting id, queued g.held id seen kept))

-- where all are common, none is counted
all_common_at : (m : Commits) (ws : List Waiting) → ((id : ObjectId) → 1 ≤ waits_of ws id → has_mark COMMON m id ≡ true) → open_in m ws ≡ 0
all_common_at m [] all = open_nil m
all_common_at m (x ∷ xs) all =
    let here : ◌≡◌ {A = ℕ} (waits_one x x.id) 1 = ap (λ c. cond {A = ℕ} c 1 0) (same_id x.id) in
    let first : has_mark COMMON m x.id ≡ true = all x.id (omega (arith, waits_cons x xs x.id)) in
    let none : ◌≡◌ {A = ℕ} (open_one m x.id) 0 = ap (λ c. cond {A = ℕ} c 0 1) first in
    let rest : open_in m xs ≡ 0 = all_common_at m xs (λ id l. all id (omega (arith, waits_cons x xs id, l))) in
    omega (arith, open_cons m x xs)

pub none_counted : (u : ℕ) (ws : List Waiting) (g : GraphData) → Fits 0 u ws g → AllCommon g → u ≡ 0
none_counted u ws g f all =
    let none : open_in g.held ws ≡ 0 = all_common_at g.held ws (λ id l.
    let much : 1 ≤ queued_one g.held id = omega (arith, l, f.waiting id) in
    all id (seen_at (has_mark SEEN g.held id) (has_mark POPPED g.held id) much) (left_at (has_mark SEEN g.held id)
    (has_mark POPPED g.held id) much)) in
    omega (arith, f.counted)

-- ---- steps that queue each commit under its own time

pub timed_none : (u : ℕ) (ws : List Waiting) (g : GraphData) → KeepsTimed u ws g u ws g
timed_none u ws g = record { keeps = keeps_none u ws g; timed = λ all. all }

pub timed_on : (u v r : ℕ) (ws xs ys : List Waiting) (g h k : GraphData) → Grows g h → KeepsTimed u ws g v xs h
    → KeepsTimed v xs h r ys k → KeepsTimed u ws g r ys k
timed_on u v r ws xs ys g h k w a b =
    record { keeps = keeps_on u v r ws xs ys g h k w a.keeps b.keeps; timed = λ all. b.timed (a.timed all) }

-- only the count and the marks change
pub timed_fits : (u v : ℕ) (ws : List Waiting) (g h : GraphData) → Grows g h → (Fits 0 u ws g → Fits 0 v ws h) → KeepsTimed u ws g v ws h
timed_fits u v ws g h w fits = record {
  keeps = record { fits = fits; order = λ f time z all. all };
  timed = subst (λ o. AllTimed g.objects ws → AllTimed o ws) (sym w.objects) (λ all. all);
}

pub timed_grown : (u : ℕ) (ws : List Waiting) (g h : GraphData) → Grows g h → SeesNone g h → MarksNoCommon g h → PopsNone g h
    → KeepsTimed u ws g u ws h
timed_grown u ws g h w s c p = timed_fits u u ws g h w (fits_grown 0 u ws g h w s c p)

-- a commit is queued that wasn't seen
pub timed_pushed : (u v : ℕ) (ws xs : List Waiting) (g h : GraphData) (new : Waiting) → Grows g h → SeesOnly new.id g h
    → PopsNone g h → MarksCommonOnly new.id g h → has_mark SEEN g.held new.id ≡ false → has_mark SEEN h.held new.id ≡ true
    → IsPermutation (new ∷ ws) xs → v ≡ u + open_one h.held new.id → time_at g.objects new.id ≡ Some new.time → KeepsTimed u ws g v xs h
timed_pushed u v ws xs g h new w s pops only unseen seen p is time = record {
  keeps = record {
    fits = fits_pushed 0 u v ws xs g h new w s pops only unseen seen p is;
    order = order_pushed ws xs g new unseen p;
  };
  timed = subst (λ o. AllTimed g.objects ws → AllTimed o xs) (sym w.objects) (times_pushed ws xs g.objects new time p);
}

-- the first commit is separated from the others
pub timed_popped : (u : ℕ) (ws xs : List Waiting) (g : GraphData) (first : Waiting) → IsPermutation ws (first ∷ xs)
    → KeepsTimed u ws g u (first ∷ xs) g
timed_popped u ws xs g first p = record {
  keeps = keeps_popped u ws xs g first p;
  timed = All-permutation (λ (x : Waiting). time_at g.objects x.id ≡ Some x.time) ws (first ∷ xs) p;
}

-- the first commit is taken
pub timed_taken : (u v : ℕ) (ws : List Waiting) (g h : GraphData) (first : Waiting) → Grows g h
    → (Fits 0 u (first ∷ ws) g → Fits 0 v ws h) → KeepsTimed u (first ∷ ws) g v ws h
timed_taken u v ws g h first w fits = record {
  keeps = record {
    fits = fits;
    order = λ f time z all. All-tail (λ (x : Waiting). has_mark SEEN f.held x.id ≡ true → x.time ≤ℤ time) first ws all;
  };
  timed = λ all. subst (λ o. AllTimed o ws) (sym w.objects) (All-tail (λ (x : Waiting). time_at g.objects x.id ≡ Some x.time) first ws all);
}

-- ---- the count of a step

-- a commit became common: it isn't counted any more where it is queued
settled_at : (u v : ℕ) (g h : GraphData) (id : ObjectId) (flags : Flags) (seen taken : Bool)
    → has_all SEEN flags.0 ≡ seen → has_all POPPED flags.0 ≡ taken → Claims COMMON g h id flags
    → (has_all SEEN flags.0 ≡ true → has_all POPPED flags.0 ≡ false → v ≡ u - 1) → (has_all SEEN flags.0 ≡ false → v ≡ u)
    → (has_all POPPED flags.0 ≡ true → v ≡ u) → v ≡ u - queued_one g.held id
settled_at u v g h id flags true false a b k waits unseen taken =
    omega (arith, waits a b, queued g.held id (k.was SEEN refl a) (k.lacks POPPED b))
settled_at u v g h id flags true true a b k waits unseen taken = omega (arith, taken b, spent g.held id (k.was POPPED refl b))
settled_at u v g h id flags false b a e k waits unseen taken = omega (arith, unseen a, unqueued g.held id (k.lacks SEEN a))

pub settled : (u v : ℕ) (ws : List Waiting) (g h : GraphData) (id : ObjectId) (flags : Flags) → Claims COMMON g h id flags → Grows g h
    → SeesNone g h → PopsNone g h → MarksCommonOnly id g h
    → (has_all SEEN flags.0 ≡ true → has_all POPPED flags.0 ≡ false → v ≡ u - 1) → (has_all SEEN flags.0 ≡ false → v ≡ u)
    → (has_all POPPED flags.0 ≡ true → v ≡ u) → Fits 0 u ws g → Fits 0 v ws h
settled u v ws g h id flags k w s p only waits unseen taken = fits_common 0 u v ws g h id w s p only k.before k.after
    (settled_at u v g h id flags (has_all SEEN flags.0) (has_all POPPED flags.0) refl refl k waits unseen taken)

-- a newly queued commit is counted, unless it is common
pub admitted : (u v : ℕ) (m : Commits) (id : ObjectId) (common : Bool) → has_mark COMMON m id ≡ common
    → (common ≡ true → v ≡ u) → (common ≡ false → v ≡ u + 1) → v ≡ u + open_one m id
admitted u v m id true is none one = let e : ◌≡◌ {A = ℕ} (open_one m id) 0 = ap (λ c. cond {A = ℕ} c 0 1) is in omega (arith, none refl)
admitted u v m id false is none one = let e : ◌≡◌ {A = ℕ} (open_one m id) 1 = ap (λ c. cond {A = ℕ} c 0 1) is in omega (arith, one refl)

-- a commit that is taken isn't counted any more, unless it is common
pub released : (u v : ℕ) (m : Commits) (id : ObjectId) (common : Bool) → has_mark COMMON m id ≡ common
    → (common ≡ true → v ≡ u) → (common ≡ false → v ≡ u - 1) → v ≡ u - open_one m id
released u v m id true is none one = let e : ◌≡◌ {A = ℕ} (open_one m id) 0 = ap (λ c. cond {A = ℕ} c 0 1) is in omega (arith, none refl)
released u v m id false is none one = let e : ◌≡◌ {A = ℕ} (open_one m id) 1 = ap (λ c. cond {A = ℕ} c 0 1) is in omega (arith, one refl)

-- the marks of a commit before a step that added one
pub was_mark : (mark b : ℕ) (g h : GraphData) (id : ObjectId) (flags : Flags) → Claims mark g h id flags → has_all b 0 ≡ false
    → has_mark b g.held id ≡ has_all b flags.0
was_mark mark b g h id flags k z = at (has_all b flags.0) refl
  where
    at : (c : Bool) → has_all b flags.0 ≡ c → has_mark b g.held id ≡ has_all b flags.0
    at true e = k.was b z e ∙ sym e
    at false e = k.lacks b e ∙ sym e

-- ---- the newest is taken

some_same : (a b : ℤ) → ◌≡◌ {A = Option ℤ} (Some a) (Some b) → a ≡ b
some_same a b e = cc

itself : (a : ℤ) → a ≤ℤ a
itself a = grind (arith, ints)

pub newest_at : (g l : GraphData) (ws xs ys : List Waiting) (first : Waiting) → Grows g l → AllTimed l.objects ws
    → IsPermutation ws (first ∷ xs) → IsNewestWaiting xs first
    → ((f : GraphData) (time : ℤ) → Grows f l → NoneNewer time f (first ∷ xs) → NoneNewer time f ys) → IsNewestAt g first.id ys
newest_at g l ws xs ys first w timed p n order time is =
    let own : time_at l.objects first.id ≡ Some first.time = All-head (λ (x : Waiting). time_at l.objects x.id ≡ Some x.time) first xs
    (All-permutation (λ (x : Waiting). time_at l.objects x.id ≡ Some x.time) ws (first ∷ xs) p timed) in
    let same : first.time ≡ time = some_same first.time time (sym own ∙ ap (λ (o : Objects). time_at o first.id) w.objects ∙ is) in
    order g time w
    (All-cons (λ (x : Waiting). has_mark SEEN g.held x.id ≡ true → x.time ≤ℤ time) first xs
    (λ s. subst (λ (z : ℤ). first.time ≤ℤ z) same (itself first.time))
    (All-weaker (λ (x : Waiting). x.time ≤ℤ first.time) (λ (x : Waiting). has_mark SEEN g.held x.id ≡ true → x.time ≤ℤ time)
    (λ x le s. subst (λ (z : ℤ). x.time ≤ℤ z) same le) xs n.newest))

-- ---- steps of a negotiator that counts all queued commits

-- a commit is queued and counted
pub fits_admitted : (u v : ℕ) (ws xs : List Waiting) (g h : GraphData) (new : Waiting) → IsPermutation (new ∷ ws) xs → (id : ObjectId)
    → new.id ≡ id → Grows g h → SeesOnly id g h → PopsNone g h → MarksNoCommon g h → has_mark SEEN g.held id ≡ false
    → has_mark SEEN h.held id ≡ true → v ≡ u + 1 → (lost : ℕ) → FitsSeen lost u ws g → FitsSeen lost v xs h
fits_admitted u v ws xs g h new p id is w s pops none before after count lost f = record {
  fits = fits_pushed lost u v ws xs g h new w (subst (λ i. SeesOnly i g h) (sym is) s) pops
      (λ q m. or_left (has_mark COMMON g.held q) (eq_by_cmp id_cmp q new.id) (none q m)) unseen
      (subst (λ i. has_mark SEEN h.held i ≡ true) (sym is) after) p
      (let e : ◌≡◌ {A = ℕ} (open_one h.held new.id) 1 = ap (λ c. cond {A = ℕ} c 0 1) lone in omega (arith, count)) f.fits;
  seen = λ q m. w.marks SEEN q (f.seen q (none q m));
}
  where
    unseen : has_mark SEEN g.held new.id ≡ false
    unseen = subst (λ i. has_mark SEEN g.held i ≡ false) (sym is) before

    lone : has_mark COMMON h.held new.id ≡ false
    lone = lacked (has_mark COMMON h.held new.id) (has_mark SEEN g.held new.id) (λ m. f.seen new.id (none new.id m)) unseen

pub seen_grown : (lost u : ℕ) (ws : List Waiting) (g h : GraphData) → Grows g h → SeesNone g h → MarksNoCommon g h → PopsNone g h
    → FitsSeen lost u ws g → FitsSeen lost u ws h
seen_grown lost u ws g h w s c p f =
    record { fits = fits_grown lost u ws g h w s c p f.fits; seen = λ q m. w.marks SEEN q (f.seen q (c q m)) }

pub seen_taken : (lost u v : ℕ) (ws : List Waiting) (g h : GraphData) (first : Waiting) → Grows g h → SeesNone g h → MarksNoCommon g h
    → PopsOnly first.id g h → has_mark POPPED h.held first.id ≡ true → v ≡ u - open_one g.held first.id
    → FitsSeen lost u (first ∷ ws) g → FitsSeen lost v ws h
seen_taken lost u v ws g h first w s c p after is f =
    record { fits = fits_taken lost u v ws g h first w s c p after is f.fits; seen = λ q m. w.marks SEEN q (f.seen q (c q m)) }

pub seen_spent : (lost u v : ℕ) (ws : List Waiting) (g h : GraphData) (first : Waiting) → Grows g h → PopsNone g h
    → (has_mark SEEN h.held first.id ≡ true → has_mark POPPED h.held first.id ≡ true) → FitsSeen lost u (first ∷ ws) g
    → FitsSeen lost v ws h
seen_spent lost u v ws g h first w p taken f = absurd (true≢false
    (sym (p first.id (taken (w.marks SEEN first.id (first_seen ws g first f.fits.waiting)))) ∙ first_left ws g first f.fits.waiting))

pub seen_popped : (lost u : ℕ) (ws xs : List Waiting) (g : GraphData) (first : Waiting) → IsPermutation ws (first ∷ xs)
    → FitsSeen lost u ws g → FitsSeen lost u (first ∷ xs) g
seen_popped lost u ws xs g first p f = record { fits = fits_popped lost u ws xs g first p f.fits; seen = f.seen }

-- no further common commit is counted
pub counts_all : (R : Type 0) (u v : ℕ) (ws xs : List Waiting) (g h : GraphData)
    → ((lost : ℕ) → FitsSeen lost u ws g → FitsSeen lost v xs h) → KeepsCount R u ws g v xs h
counts_all R u v ws xs g h k lost f = (0, ((λ r. refl), subst (λ n. FitsSeen n v xs h) (plus_none lost) (k lost f)))
  where
    plus_none : (n : ℕ) → n ≡ n + 0
    plus_none n = omega arith

-- one step after another
pub counts_on : (R P Q : Type 0) (u v r : ℕ) (ws xs ys : List Waiting) (g h k : GraphData) → (R → P) → (R → Q)
    → KeepsCount P u ws g v xs h → KeepsCount Q v xs h r ys k → KeepsCount R u ws g r ys k
counts_on R P Q u v r ws xs ys g h k p q a b lost f =
    let x = a lost f in
    let y = b (lost + x.0) x.1.1 in (
      x.0 + y.0,
      (
        (λ e. let first : x.0 ≡ 0 = x.1.0 (p e) in let then : y.0 ≡ 0 = y.1.0 (q e) in omega arith),
        subst (λ n. FitsSeen n r ys k) (three lost x.0 y.0) y.1.1,
      ),
    )
  where
    three : (a b c : ℕ) → a + b + c ≡ a + (b + c)
    three a b c = omega arith

-- ---- newly queued commits

-- their times are right from before earlier steps
none_before : (a b : Bool) → (a ≡ true → b ≡ true) → b ≡ false → a ≡ false
none_before true b k e = absurd (true≢false (sym (k refl) ∙ e))
none_before false b k e = refl

pub none_held : (o : Option HeldCommit) → is_some o ≡ false → o ≡ None
none_held None e = refl
none_held (Some h) e = absurd (true≢false e)

pub dated_since : (g h : GraphData) (w : Waiting) → Grows g h → IsDated h w → IsDated g w
dated_since g h w v d = ⊎_elim
    (λ own. inl (subst (λ (o : Objects). time_at o w.id ≡ Some w.time) v.objects own))
    (λ zero. inr (
      zero.0,
      none_held (finite.get g.held w.id)
          (none_before (is_some (finite.get g.held w.id)) (is_some (finite.get h.held w.id)) (v.held w.id) (ap is_some zero.1)),
    ))
    d

-- no commit is queued
pub queues_same : (ws xs : List Waiting) (g : GraphData) → xs ≡ ws → QueuesNew ws g xs
queues_same ws xs g e = subst (QueuesNew ws g) (sym e) (record {
  order = λ f time v all. all;
  dated = All-weaker (Contains ws) (λ (w : Waiting). Contains ws w ⊎ IsDated g w) (λ w c. inl c) ws (All-contains_itself ws);
})

pub queues_on : (ws ys xs : List Waiting) (g h : GraphData) → Grows g h → QueuesNew ws g ys → QueuesNew ys h xs → QueuesNew ws g xs
queues_on ws ys xs g h v a b = record {
  order = λ f time w all. b.order f time (grows_on f g h w v) (a.order f time w all);
  dated = All-weaker (λ (w : Waiting). Contains ys w ⊎ IsDated h w) (λ (w : Waiting). Contains ws w ⊎ IsDated g w)
      (λ w e. ⊎_elim (λ c. All-contains (λ (x : Waiting). Contains ws x ⊎ IsDated g x) ys w a.dated c)
      (λ d. inr (dated_since g h w v d)) e) xs b.dated;
}

-- a commit is queued that wasn't seen
pub queues_pushed : (ws xs : List Waiting) (g : GraphData) (new : Waiting) → has_mark SEEN g.held new.id ≡ false
    → IsPermutation (new ∷ ws) xs → IsDated g new → QueuesNew ws g xs
queues_pushed ws xs g new unseen p d = record {
  order = order_pushed ws xs g new unseen p;
  dated = All-permutation (λ (w : Waiting). Contains ws w ⊎ IsDated g w) (new ∷ ws) xs p
      (All-cons (λ (w : Waiting). Contains ws w ⊎ IsDated g w) new ws (inr d)
      (All-weaker (Contains ws) (λ (w : Waiting). Contains ws w ⊎ IsDated g w) (λ w c. inl c) ws (All-contains_itself ws)));
}

-- the time of a commit that isn't held is 0
dated_at : (g : GraphData) (w : Waiting) (o : Option HeldCommit) (time : ℤ) → finite.get g.held w.id ≡ o
    → time_at g.objects w.id ≡ Some time → (is_some o ≡ true → w.time ≡ time) → (is_some o ≡ false → w.time ≡ pos 0) → IsDated g w
dated_at g w None time e t read unread = inr (unread refl, e)
dated_at g w (Some h) time e t read unread = inl (t ∙ ap Some (sym (read refl)))

pub dated_new : (g : GraphData) (w : Waiting) (time : ℤ) → time_at g.objects w.id ≡ Some time → (is_some (finite.get g.held w.id) ≡ true
    → w.time ≡ time) → (is_some (finite.get g.held w.id) ≡ false → w.time ≡ pos 0) → IsDated g w
dated_new g w time = dated_at g w (finite.get g.held w.id) time refl

-- a commit is shown exactly where it is held
pub shown_some : (o : Option HeldCommit) → is_some (option_map shown o) ≡ is_some o
shown_some None = refl
shown_some (Some h) = refl

-- the first commit is taken
pub queues_taken : (ws xs : List Waiting) (g : GraphData) (first : Waiting) → IsPermutation ws (first ∷ xs) → QueuesNew ws g xs
queues_taken ws xs g first p = record {
  order = λ f time v all. All-tail (λ (w : Waiting). has_mark SEEN f.held w.id ≡ true → w.time ≤ℤ time) first xs
      (All-permutation (λ (w : Waiting). has_mark SEEN f.held w.id ≡ true → w.time ≤ℤ time) ws (first ∷ xs) p all);
  dated = All-tail (λ (w : Waiting). Contains ws w ⊎ IsDated g w) first xs
      (All-permutation (λ (w : Waiting). Contains ws w ⊎ IsDated g w) ws (first ∷ xs) p
      (All-weaker (Contains ws) (λ (w : Waiting). Contains ws w ⊎ IsDated g w) (λ w c. inl c) ws (All-contains_itself ws)));
}

-- the first commit is the newest
pub newest_in : (us ws xs ys : List Waiting) (g l : GraphData) (first : Waiting) → Grows g l → QueuesNew us g ws
    → IsPermutation ws (first ∷ xs) → IsNewestWaiting xs first → QueuesNew xs l ys → IsNewestIn us g first.id ys
newest_in us ws xs ys g l first v q p n step = (
  first,
  refl,
  All-head (λ (w : Waiting). Contains us w ⊎ IsDated g w) first xs
      (All-permutation (λ (w : Waiting). Contains us w ⊎ IsDated g w) ws (first ∷ xs) p q.dated),
  step.order g first.time v (All-weaker (λ (w : Waiting). w.time ≤ℤ first.time)
      (λ (w : Waiting). has_mark SEEN g.held w.id ≡ true → w.time ≤ℤ first.time) (λ w le s. le) xs n.newest),
)
