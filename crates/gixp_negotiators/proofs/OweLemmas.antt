-- Commits that became common and are still counted.
use Rattle.std.proofs.Common.{◌≡◌, ◌∙◌, ℕ, ◌+◌, ◌-◌, ⊎_elim, Bool, true, false, cond, List, [], ◌∷◌, ◌++◌, refl, sym, ap, subst, arith}
use Rattle.std.specs.Ordering.{eq_by_cmp}
use Rattle.std.proofs.lemmas.Bool.{or_cases}
use Rattle.std.proofs.lemmas.Grind.{common_steps}
use Rattle.gixp_hash.specs.declared.object_id.ObjectId.{ObjectId}
use Rattle.gixp_hash.specs.ObjectId.{id_cmp}
use Rattle.gixp_graph.specs.GraphData.{Commits, GraphData}
use Rattle.gixp_graph.specs.GraphLaws.{same_from}
use Rattle.gixp_negotiators.specs.declared.queue.Waiting.{Waiting}
use Rattle.gixp_negotiators.specs.Marks.{COMMON, SEEN, POPPED, has_mark}
use Rattle.gixp_negotiators.specs.AddedMarks.{Grows, SeesNone, MarksNoCommon, MarksCommonOnly, PopsNone}
use Rattle.gixp_negotiators.specs.Queued.{queued_one, open_in, FitsSeen}
use Rattle.gixp_negotiators.specs.Owed.{owed_by, FitsOwing}
use Rattle.gixp_negotiators.proofs.FitLemmas.{same_none, same_queued, queued, spent, open_kept, open_settled}

-- 1 for a commit that wasn't taken, else 0
abbrev owed_one : Commits → ObjectId → ℕ
owed_one m id = cond {A = ℕ} (has_mark POPPED m id) 0 1

pub owed_nil : (m : Commits) → owed_by m [] ≡ 0
unfolding owed_by
owed_nil m = refl

owed_cons : (m : Commits) (id : ObjectId) (due : List ObjectId) → owed_by m (id ∷ due) ≡ owed_one m id + owed_by m due
unfolding owed_by
owed_cons m id due = grind (arith, common_steps)

pub owed_push : (m : Commits) (due : List ObjectId) (id : ObjectId) → owed_by m (due ++ id ∷ []) ≡ owed_by m due + owed_one m id
owed_push m [] id = omega (arith, owed_cons m id [], owed_nil m)
owed_push m (x ∷ xs) id = omega (arith, owed_cons m x (xs ++ id ∷ []), owed_cons m x xs, owed_push m xs id)

owed_kept : (g h : GraphData) → ((q : ObjectId) → has_mark POPPED h.held q ≡ has_mark POPPED g.held q) → (due : List ObjectId)
    → owed_by h.held due ≡ owed_by g.held due
owed_kept g h same [] = omega (arith, owed_nil h.held, owed_nil g.held)
owed_kept g h same (x ∷ xs) =
    let one : ◌≡◌ {A = ℕ} (owed_one h.held x) (owed_one g.held x) = ap (λ c. cond {A = ℕ} c 0 1) (same x) in
    omega (arith, owed_cons h.held x xs, owed_cons g.held x xs, owed_kept g h same xs)

-- with no due commit it is the plain invariant
pub owing_none : (lost u : ℕ) (ws : List Waiting) (g : GraphData) (due : List ObjectId) → due ≡ [] → FitsSeen lost u ws g
    → FitsOwing lost u ws g due
owing_none lost u ws g due e f = record {
  waiting = f.fits.waiting;
  taken = f.fits.taken;
  seen = f.seen;
  counted = omega (arith, f.fits.counted, owed_nil g.held, ap (owed_by g.held) e);
}

pub owing_end : (R : Type 0) (lost u : ℕ) (ws : List Waiting) (g : GraphData) (due : List ObjectId) → (R → due ≡ [])
    → FitsOwing lost u ws g due → (more : ℕ) × ((R → more ≡ 0) × FitsSeen (lost + more) u ws g)
owing_end R lost u ws g due none f = (
  owed_by g.held due,
  (
    (λ r. ap (owed_by g.held) (none r) ∙ owed_nil g.held),
    record {
      fits = record { waiting = f.waiting; taken = f.taken; counted = omega (arith, f.counted) };
      seen = f.seen;
    },
  ),
)

-- marks are added that don't count
pub owing_grown : (lost u : ℕ) (ws : List Waiting) (g h : GraphData) (due : List ObjectId) → Grows g h → SeesNone g h → MarksNoCommon g h
    → PopsNone g h → FitsOwing lost u ws g due → FitsOwing lost u ws h due
owing_grown lost u ws g h due w s c p f = record {
  waiting = λ id. f.waiting id ∙ same_queued g h id (same_none SEEN g h w s id) (same_none POPPED g h w p id);
  taken = λ id t. w.marks SEEN id (f.taken id (p id t));
  seen = λ id m. w.marks SEEN id (f.seen id (c id m));
  counted = omega (arith, f.counted, open_kept g h (same_none COMMON g h w c) ws, owed_kept g h (same_none POPPED g h w p) due);
}

-- a commit that was seen becomes common and due
pub owing_reached : (lost u : ℕ) (ws : List Waiting) (g h : GraphData) (due more : List ObjectId) (id : ObjectId) → Grows g h
    → SeesNone g h → PopsNone g h → MarksCommonOnly id g h → has_mark SEEN g.held id ≡ true → has_mark COMMON g.held id ≡ false
    → has_mark COMMON h.held id ≡ true → more ≡ due ++ id ∷ [] → FitsOwing lost u ws g due → FitsOwing lost u ws h more
owing_reached lost u ws g h due more id w s p only seen before after is f = record {
  waiting = λ q. f.waiting q ∙ same_queued g h q (same_none SEEN g h w s q) (same_none POPPED g h w p q);
  taken = λ q t. w.marks SEEN q (f.taken q (p q t));
  seen = λ q m. w.marks SEEN q (⊎_elim (λ was. f.seen q was)
      (λ e. subst (λ i. has_mark SEEN g.held i ≡ true) (sym (same_from q id e)) seen)
      (or_cases (has_mark COMMON g.held q) (eq_by_cmp id_cmp q id) (only q m)));
  counted =
      omega (
        arith,
        f.counted,
        open_settled g h w id only before after ws,
        f.waiting id,
        owed_kept g h (same_none POPPED g h w p) due,
        owed_push h.held due id,
        ap (owed_by h.held) is,
        owes (has_mark POPPED g.held id) refl,
      );
}
  where
    owes : (b : Bool) → has_mark POPPED g.held id ≡ b → owed_one h.held id ≡ queued_one g.held id
    owes true e =
        let none : ◌≡◌ {A = ℕ} (owed_one h.held id) 0 = ap (λ c. cond {A = ℕ} c 0 1) (same_none POPPED g h w p id ∙ e) in
        omega (arith, spent g.held id e)
    owes false e =
        let one : ◌≡◌ {A = ℕ} (owed_one h.held id) 1 = ap (λ c. cond {A = ℕ} c 0 1) (same_none POPPED g h w p id ∙ e) in
        omega (arith, queued g.held id seen e)

-- a commit that is no longer due isn't counted any more, unless it was taken
pub owing_paid : (lost u v : ℕ) (ws : List Waiting) (g : GraphData) (due rest : List ObjectId) (id : ObjectId) → due ≡ rest ++ id ∷ []
    → (has_mark POPPED g.held id ≡ true → v ≡ u) → (has_mark POPPED g.held id ≡ false → v ≡ u - 1) → FitsOwing lost u ws g due
    → FitsOwing lost v ws g rest
owing_paid lost u v ws g due rest id is same less f = record {
  waiting = f.waiting;
  taken = f.taken;
  seen = f.seen;
  counted = at (has_mark POPPED g.held id) refl;
}
  where
    at : (b : Bool) → has_mark POPPED g.held id ≡ b → open_in g.held ws + owed_by g.held rest + lost ≡ v
    at true e =
        let none : ◌≡◌ {A = ℕ} (owed_one g.held id) 0 = ap (λ c. cond {A = ℕ} c 0 1) e in
        omega (arith, f.counted, same e, ap (owed_by g.held) is, owed_push g.held rest id)
    at false e =
        let one : ◌≡◌ {A = ℕ} (owed_one g.held id) 1 = ap (λ c. cond {A = ℕ} c 0 1) e in
        omega (arith, f.counted, less e, ap (owed_by g.held) is, owed_push g.held rest id)
