-- Which commits are newly seen.
use Rattle.std.proofs.Common.{◌≡◌, ◌∙◌, inl, inr, ⊎_elim, ℕ, ◌<◌, Bool, true, false, List, [], ◌∷◌, ◌++◌, length, get_or, refl, sym, subst, true≢false}
use Rattle.std.specs.Prelude.{◌||◌, All, Contains, not}
use Rattle.std.specs.Ordering.{eq_by_cmp}
use Rattle.std.proofs.lemmas.Bool.{or_cases, or_left, or_right}
use Rattle.std.proofs.lemmas.List.Elements.{All-weaker, All-push, All-contains, All-contains_itself, Contains-get_or, Contains-push, Contains-append_left}
use Rattle.gixp_hash.specs.declared.object_id.ObjectId.{ObjectId}
use Rattle.gixp_hash.specs.ObjectId.{id_cmp}
use Rattle.gixp_graph.specs.GraphData.{GraphData, parents_in}
use Rattle.gixp_graph.specs.GraphLaws.{same_from}
use Rattle.gixp_negotiators.specs.Marks.{COMMON, COMMON_REF, SEEN, has_mark}
use Rattle.gixp_negotiators.specs.AddedMarks.{Grows, SeesNone, SeesOnly, MarksNoCommon}
use Rattle.gixp_negotiators.specs.NewlySeen.{SeesCommon, SeesAmong, OpensParents}

pub sees_same : (g h : GraphData) → SeesNone g h → SeesCommon g h
unfolding SeesCommon
sees_same g h s id seen = or_left (has_mark SEEN g.held id) (has_mark COMMON h.held id) (s id seen)

pub sees_on : (g h k : GraphData) → Grows h k → SeesCommon g h → SeesCommon h k → SeesCommon g k
unfolding SeesCommon
sees_on g h k w a b id seen = ⊎_elim
    (λ was. ⊎_elim (λ first. or_left (has_mark SEEN g.held id) (has_mark COMMON k.held id) first) (λ c. or_right (has_mark SEEN g.held id)
    (has_mark COMMON k.held id) (w.marks COMMON id c)) (or_cases (has_mark SEEN g.held id) (has_mark COMMON h.held id) (a id was)))
    (λ c. or_right (has_mark SEEN g.held id) (has_mark COMMON k.held id) c)
    (or_cases (has_mark SEEN h.held id) (has_mark COMMON k.held id) (b id seen))

-- a newly seen commit is common
pub sees_one : (g h : GraphData) (one : ObjectId) → SeesOnly one g h → (has_mark SEEN g.held one || has_mark COMMON h.held one) ≡ true
    → SeesCommon g h
unfolding SeesCommon
sees_one g h one only c id seen = ⊎_elim
    (λ was. or_left (has_mark SEEN g.held id) (has_mark COMMON h.held id) was)
    (λ e. subst (λ i. (has_mark SEEN g.held i || has_mark COMMON h.held i) ≡ true) (sym (same_from id one e)) c)
    (or_cases (has_mark SEEN g.held id) (eq_by_cmp id_cmp id one) (only id seen))

-- a commit that was seen or common still is after a step
pub near_on : (g h : GraphData) (one : ObjectId) → Grows g h → (has_mark SEEN g.held one || has_mark COMMON g.held one) ≡ true
    → (has_mark SEEN h.held one || has_mark COMMON h.held one) ≡ true
near_on g h one w c = ⊎_elim (λ s. or_left (has_mark SEEN h.held one) (has_mark COMMON h.held one) (w.marks SEEN one s)) (λ s. or_right
    (has_mark SEEN h.held one) (has_mark COMMON h.held one) (w.marks COMMON one s)) (or_cases (has_mark SEEN g.held one)
    (has_mark COMMON g.held one) c)

-- a commit that wasn't seen after a step, but was seen or common before, is common
pub near_unseen : (g h : GraphData) (one : ObjectId) → Grows g h → has_mark SEEN h.held one ≡ false
    → (has_mark SEEN g.held one || has_mark COMMON g.held one) ≡ true → has_mark COMMON h.held one ≡ true
near_unseen g h one w unseen c = ⊎_elim (λ s. absurd (true≢false (sym (w.marks SEEN one s) ∙ unseen))) (λ s. w.marks COMMON one s)
    (or_cases (has_mark SEEN g.held one) (has_mark COMMON g.held one) c)

-- ---- newly seen commits are among some

pub among_none : (ids : List ObjectId) (g h : GraphData) → SeesCommon g h → SeesAmong ids g h
unfolding SeesCommon SeesAmong
among_none ids g h s id seen = inl (s id seen)

pub among_one : (ids : List ObjectId) (i : ℕ) (d : ObjectId) (g h : GraphData) → i < length ids → SeesOnly (get_or ids i d) g h
    → SeesAmong ids g h
unfolding SeesAmong
among_one ids i d g h lt only id seen = ⊎_elim
    (λ was. inl (or_left (has_mark SEEN g.held id) (has_mark COMMON h.held id) was))
    (λ e. inr (subst (Contains ids) (sym (same_from id (get_or ids i d) e)) (Contains-get_or ids i d lt)))
    (or_cases (has_mark SEEN g.held id) (eq_by_cmp id_cmp id (get_or ids i d)) (only id seen))

pub among_on : (ids : List ObjectId) (g h k : GraphData) → Grows h k → SeesAmong ids g h → SeesAmong ids h k → SeesAmong ids g k
unfolding SeesAmong
among_on ids g h k w a b id seen = ⊎_elim
    (λ c. ⊎_elim
    (λ was. ⊎_elim
    (λ first. inl (⊎_elim (λ x. or_left (has_mark SEEN g.held id) (has_mark COMMON k.held id) x) (λ x. or_right (has_mark SEEN g.held id)
    (has_mark COMMON k.held id) (w.marks COMMON id x)) (or_cases (has_mark SEEN g.held id) (has_mark COMMON h.held id) first)))
    inr (a id was))
    (λ x. inl (or_right (has_mark SEEN g.held id) (has_mark COMMON k.held id) x))
    (or_cases (has_mark SEEN h.held id) (has_mark COMMON k.held id) c))
    inr (b id seen)

-- ---- an offer

-- a commit was taken, and each newly seen commit is common or one of its parents
pub opens_taken : (g h k : GraphData) (one : ObjectId) (parents : List ObjectId) (shared : Bool) → Grows h k → SeesNone g h
    → MarksNoCommon g h → has_mark COMMON_REF g.held one ≡ shared → parents ≡ parents_in k.held one → (shared ≡ true → SeesCommon h k)
    → (shared ≡ false → MarksNoCommon h k) → (shared ≡ false → SeesAmong parents h k) → OpensParents g one k
opens_taken g h k one parents true w none settles listed is common lone others =
    inl (listed, sees_on g h k w (sees_same g h none) (common refl))
opens_taken g h k one parents false w none settles listed is common lone others = inr (
  listed,
  (
    (λ id m. settles id (lone refl id m)),
    subst (λ ids. SeesAmong ids g k) is (among_on parents g h k w (among_none parents g h (sees_same g h none)) (others refl)),
  ),
)

-- ---- commits that are common

pub common_grown : (g h : GraphData) (ids : List ObjectId) → Grows g h → All (λ q. has_mark COMMON g.held q ≡ true) ids
    → All (λ q. has_mark COMMON h.held q ≡ true) ids
common_grown g h ids w all = All-weaker (λ q. has_mark COMMON g.held q ≡ true) (λ q. has_mark COMMON h.held q ≡ true)
    (λ q e. w.marks COMMON q e) ids all

pub common_pushed : (g h : GraphData) (ids more : List ObjectId) (one : ObjectId) → Grows g h → has_mark COMMON h.held one ≡ true
    → more ≡ ids ++ one ∷ [] → All (λ q. has_mark COMMON g.held q ≡ true) ids → All (λ q. has_mark COMMON h.held q ≡ true) more
common_pushed g h ids more one w e is all = subst (All (λ q. has_mark COMMON h.held q ≡ true)) (sym is)
    (All-push (λ q. has_mark COMMON h.held q ≡ true) ids one (common_grown g h ids w all) e)

-- a commit that isn't offered is common or a ref of the server
pub shared_common : (common two four : Bool) → common ≡ two → not common ≡ false → (two || four) ≡ true
shared_common true two four e f = subst (λ b. (b || four) ≡ true) e refl
shared_common false two four e f = absurd (true≢false f)

-- the last due commit and the others are common
pub common_popped : (g : GraphData) (due rest : List ObjectId) (one : ObjectId) → due ≡ rest ++ one ∷ []
    → All (λ q. has_mark COMMON g.held q ≡ true) due → (has_mark COMMON g.held one ≡ true) × All (λ q. has_mark COMMON g.held q ≡ true) rest
common_popped g due rest one is all = (
  All-contains (λ q. has_mark COMMON g.held q ≡ true) due one all (subst (λ xs. Contains xs one) (sym is) (Contains-push rest one)),
  All-weaker (Contains rest) (λ q. has_mark COMMON g.held q ≡ true) (λ q c. All-contains (λ q. has_mark COMMON g.held q ≡ true) due q all
      (subst (λ xs. Contains xs q) (sym is) (Contains-append_left rest (one ∷ []) q c))) rest (All-contains_itself rest),
)
