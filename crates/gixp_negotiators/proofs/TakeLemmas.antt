-- Commits that are taken from the queue, and queues whose commits are all common.
use Rattle.std.proofs.Common.{◌≡◌, ◌∙◌, ◌⊎◌, inl, inr, ⊎_elim, ℕ, Bool, true, false, List, ◌∷◌, Option, Some, None, refl, sym, subst, true≢false}
use Rattle.std.specs.List.Sorted.{IsPermutation}
use Rattle.std.specs.Ordering.{eq_by_cmp}
use Rattle.std.proofs.lemmas.Bool.{or_cases, or_left}
use Rattle.gixp_hash.specs.declared.object_id.ObjectId.{ObjectId}
use Rattle.gixp_hash.specs.ObjectId.{id_cmp}
use Rattle.gixp_graph.specs.GraphData.{GraphData}
use Rattle.gixp_graph.specs.GraphLaws.{same_from}
use Rattle.gixp_negotiators.specs.declared.queue.Waiting.{Waiting}
use Rattle.gixp_negotiators.specs.Marks.{COMMON, SEEN, POPPED, has_mark}
use Rattle.gixp_negotiators.specs.AddedMarks.{Grows, SeesNone, SeesOnly, PopsNone, PopsOnly}
use Rattle.gixp_negotiators.specs.Offered.{TakesCommon}
use Rattle.gixp_negotiators.specs.Queued.{Fits, FitsSeen, AllCommon}
use Rattle.gixp_negotiators.proofs.FitLemmas.{lacked, first_seen, first_left, fits_popped}

-- ---- only one commit is taken

pub pops_none : (one : ObjectId) (g h : GraphData) → PopsNone g h → PopsOnly one g h
pops_none one g h none id t = or_left (has_mark POPPED g.held id) (eq_by_cmp id_cmp id one) (none id t)

pub pops_on : (one : ObjectId) (g h k : GraphData) → PopsOnly one g h → PopsNone h k → PopsOnly one g k
pops_on one g h k only none id t = only id (none id t)

-- it was, unless it had been taken before
only_one : (one : ObjectId) (g h : GraphData) → PopsOnly one g h → (id : ObjectId) → has_mark POPPED g.held id ≡ false
    → has_mark POPPED h.held id ≡ true → id ≡ one
only_one one g h only id before after = ⊎_elim (λ was. absurd (true≢false (sym was ∙ before))) (λ e. same_from id one e)
    (or_cases (has_mark POPPED g.held id) (eq_by_cmp id_cmp id one) (only id after))

-- ---- commits that are taken are common, but for the one that is offered

pub takes_none : (g h : GraphData) → PopsNone g h → TakesCommon g None h
takes_none g h none id before after = absurd (true≢false (sym (none id after) ∙ before))

-- a common commit is taken
pub takes_one : (one : ObjectId) (g h : GraphData) → PopsOnly one g h → has_mark COMMON h.held one ≡ true → TakesCommon g None h
takes_one one g h only common id before after =
    inl (subst (λ i. has_mark COMMON h.held i ≡ true) (sym (only_one one g h only id before after)) common)

-- the offered one is taken
pub takes_offered : (one : ObjectId) (g h : GraphData) → PopsOnly one g h → TakesCommon g (Some one) h
takes_offered one g h only id before after =
    inr (subst (λ i. ◌≡◌ {A = Option ObjectId} (Some one) (Some i)) (sym (only_one one g h only id before after)) refl)

-- two steps in a row
pub takes_on : (g h k : GraphData) (have : Option ObjectId) → Grows h k → TakesCommon g None h → TakesCommon h have k → TakesCommon g have k
takes_on g h k have w a b id before after = at (has_mark POPPED h.held id) refl
  where
    at : (c : Bool) → has_mark POPPED h.held id ≡ c → (has_mark COMMON k.held id ≡ true) ⊎ (have ≡ Some id)
    at true e = ⊎_elim (λ common. inl (w.marks COMMON id common))
        (λ none. absurd (let clash : ◌≡◌ {A = Option ObjectId} None (Some id) = none in cc)) (a id before e)
    at false e = b id e after

-- ---- all queued commits are common

-- the first one is
pub first_common : (lost u : ℕ) (ws xs : List Waiting) (g : GraphData) (first : Waiting) → IsPermutation ws (first ∷ xs)
    → FitsSeen lost u ws g → AllCommon g → has_mark COMMON g.held first.id ≡ true
first_common lost u ws xs g first p f all =
    let fits : Fits lost u (first ∷ xs) g = fits_popped lost u ws xs g first p f.fits in
    all first.id (first_seen xs g first fits.waiting) (first_left xs g first fits.waiting)

-- no commit is newly seen
pub common_kept : (g h : GraphData) → Grows g h → SeesNone g h → AllCommon g → AllCommon h
common_kept g h w none all id seen left = w.marks COMMON id
    (all id (none id seen) (lacked (has_mark POPPED g.held id) (has_mark POPPED h.held id) (w.marks POPPED id) left))

-- one commit is newly seen. It becomes common, unless it was taken
pub common_seen : (g h k : GraphData) (one : ObjectId) → Grows g h → Grows h k → SeesOnly one g h → SeesNone h k
    → (has_mark SEEN h.held one ≡ true → has_mark POPPED k.held one ≡ false → has_mark COMMON k.held one ≡ true)
    → AllCommon g → AllCommon k
common_seen g h k one v w only none marked all id seen left = ⊎_elim
    (λ was. w.marks COMMON id (v.marks COMMON id (all id was
    (lacked (has_mark POPPED g.held id) (has_mark POPPED k.held id) (λ t. w.marks POPPED id (v.marks POPPED id t)) left))))
    (λ e. let same : id ≡ one = same_from id one e in
    subst (λ i. has_mark COMMON k.held i ≡ true) (sym same)
    (marked (subst (λ i. has_mark SEEN h.held i ≡ true) same (none id seen)) (subst (λ i. has_mark POPPED k.held i ≡ false) same left)))
    (or_cases (has_mark SEEN g.held id) (eq_by_cmp id_cmp id one) (only id (none id seen)))
