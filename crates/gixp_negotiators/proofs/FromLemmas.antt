-- Only ancestors become common.
use Rattle.std.proofs.Common.{◌≡◌, ◌∙◌, ◌<◌, ℕ, ◌⊎◌, inl, inr, ⊎_elim, Bool, true, false, List, [], ◌∷◌, ◌++◌, length, get_or, Option, Some, None, refl, sym, subst, arith, true≢false}
use Rattle.std.specs.Prelude.{All, Contains, IsSome, option_map, unwrap_or}
use Rattle.std.specs.FinMap as finite
use Rattle.std.specs.Ordering.{eq_by_cmp}
use Rattle.std.proofs.lemmas.Bool.{or_cases}
use Rattle.std.proofs.lemmas.List.Elements.{All-weaker, All-push, All-contains, All-contains_itself, Contains-push, Contains-push_cases, Contains-get_or}
use Rattle.gixp_hash.specs.declared.object_id.ObjectId.{ObjectId}
use Rattle.gixp_hash.specs.ObjectId.{id_cmp}
use Rattle.gixp_graph.specs.GraphData.{HeldCommit, GraphData, parents_in}
use Rattle.gixp_graph.specs.GraphLaws.{same_from}
use Rattle.gixp_negotiators.specs.Marks.{COMMON, has_mark}
use Rattle.gixp_negotiators.specs.AddedMarks.{Grows, MarksNoCommon, MarksCommonOnly}
use Rattle.gixp_negotiators.specs.NewlyCommon.{IsFrom, MarksCommonFrom, MarksCommonWithin, OwesAmong}
use Rattle.gixp_negotiators.proofs.FitLemmas.{lacked}

no_element : (q : ObjectId) → Contains [] q → ⊥
no_element q c = absurd (omega (arith, c.1))

only_element : (one q : ObjectId) → Contains (one ∷ []) q → one ≡ q
only_element one q c = ⊎_elim (λ none. absurd (no_element q none)) (λ same. same) (Contains-push_cases [] one q c)

-- ---- ancestors stay ancestors

parent_held : (o : Option HeldCommit) (p : ObjectId) → Contains (unwrap_or (option_map (λ (h : HeldCommit). h.parents) o) []) p → IsSome o
parent_held None p c = absurd (no_element p c)
parent_held (Some h) p c = refl

pub rises_grown : (g h : GraphData) (id q : ObjectId) → Grows g h → IsFrom g id q → IsFrom h id q
rises_grown g h id q w IsFrom.itself = IsFrom.itself
rises_grown g h id q w (IsFrom.parent {child = child} f c) = IsFrom.parent (rises_grown g h id child w f)
    (subst (λ xs. Contains xs q) (sym (w.parents child (parent_held (finite.get g.held child) q c))) c)

-- ---- which commits become common

pub within_none : (ids : List ObjectId) (g h : GraphData) → MarksNoCommon g h → MarksCommonWithin ids g h
within_none ids g h none q m = inl (none q m)

pub within_after : (ids : List ObjectId) (g h k : GraphData) → MarksNoCommon g h → MarksCommonWithin ids h k → MarksCommonWithin ids g k
within_after ids g h k none a q m = ⊎_elim (λ was. inl (none q was)) inr (a q m)

pub within_step : (ids : List ObjectId) (i : ℕ) (d : ObjectId) (g h k : GraphData) → i < length ids → MarksCommonWithin ids g h
    → MarksCommonOnly (get_or ids i d) h k → MarksCommonWithin ids g k
within_step ids i d g h k lt a only q m = ⊎_elim (λ was. a q was)
    (λ e. inr (subst (Contains ids) (sym (same_from q (get_or ids i d) e)) (Contains-get_or ids i d lt)))
    (or_cases (has_mark COMMON h.held q) (eq_by_cmp id_cmp q (get_or ids i d)) (only q m))

-- ---- which commits are due

pub owes_same : (ids due : List ObjectId) → OwesAmong ids due due
owes_same ids due = All-weaker (Contains due) (λ q. Contains due q ⊎ Contains ids q) (λ q c. inl c) due (All-contains_itself due)

pub owes_push : (due more : List ObjectId) (one : ObjectId) → more ≡ due ++ one ∷ [] → OwesAmong (one ∷ []) due more
owes_push due more one is = subst (OwesAmong (one ∷ []) due) (sym is) (All-push (λ q. Contains due q ⊎ Contains (one ∷ []) q) due one
    (owes_same (one ∷ []) due) (inr (Contains-push [] one)))

pub owes_step : (ids : List ObjectId) (i : ℕ) (d : ObjectId) (before due more : List ObjectId) → i < length ids
    → OwesAmong ids before due → OwesAmong (get_or ids i d ∷ []) due more → OwesAmong ids before more
owes_step ids i d before due more lt a b =
    All-weaker (λ q. Contains due q ⊎ Contains (get_or ids i d ∷ []) q) (λ q. Contains before q ⊎ Contains ids q)
    (λ q e. ⊎_elim (λ c. All-contains (λ q. Contains before q ⊎ Contains ids q) due q a c)
    (λ c. inr (subst (Contains ids) (only_element (get_or ids i d) q c) (Contains-get_or ids i d lt))) e) more b

-- ---- spreading from a commit

pub rises_none : (id : ObjectId) (g h : GraphData) → MarksNoCommon g h → MarksCommonFrom id g h
rises_none id g h none q n = absurd (true≢false (sym (none q n.1) ∙ n.0))

pub rises_after : (id : ObjectId) (g h k : GraphData) → MarksNoCommon g h → MarksCommonFrom id h k → MarksCommonFrom id g k
rises_after id g h k none f q n = f q (lacked (has_mark COMMON h.held q) (has_mark COMMON g.held q) (none q) n.0, n.1)

pub rises_settled : (id : ObjectId) (g h k : GraphData) → MarksCommonOnly id g h → MarksCommonFrom id h k → MarksCommonFrom id g k
rises_settled id g h k only f q n = at (has_mark COMMON h.held q) refl
  where
    at : (b : Bool) → has_mark COMMON h.held q ≡ b → IsFrom k id q
    at true e = ⊎_elim (λ was. absurd (true≢false (sym was ∙ n.0)))
        (λ same. subst (IsFrom k id) (sym (same_from q id same)) IsFrom.itself)
        (or_cases (has_mark COMMON g.held q) (eq_by_cmp id_cmp q id) (only q e))
    at false e = f q (e, n.1)

-- a step to its parents, which may become due
pub rises_first : (id : ObjectId) (g h : GraphData) → MarksCommonWithin (parents_in h.held id) g h → MarksCommonFrom id g h
rises_first id g h within q n = ⊎_elim (λ was. absurd (true≢false (sym was ∙ n.0))) (λ c. IsFrom.parent IsFrom.itself c) (within q n.1)

pub due_first : (id : ObjectId) (h : GraphData) (before due : List ObjectId) → before ≡ []
    → OwesAmong (parents_in h.held id) before due → All (IsFrom h id) due
due_first id h before due is owes = All-weaker (λ q. Contains before q ⊎ Contains (parents_in h.held id) q) (IsFrom h id)
    (λ q e. ⊎_elim (λ c. absurd (no_element q (subst (λ xs. Contains xs q) is c))) (λ c. IsFrom.parent IsFrom.itself c) e) due owes

-- a step to the parents of a commit that was due
pub rises_next : (id next : ObjectId) (g h k : GraphData) → Grows h k → IsFrom h id next → MarksCommonFrom id g h
    → MarksCommonWithin (parents_in k.held next) h k → MarksCommonFrom id g k
rises_next id next g h k w i f within q n = ⊎_elim (λ was. rises_grown h k id q w (f q (n.0, was)))
    (λ c. IsFrom.parent (rises_grown h k id next w i) c) (within q n.1)

pub due_next : (id next : ObjectId) (h k : GraphData) (rest more : List ObjectId) → Grows h k → All (IsFrom h id) rest
    → IsFrom h id next → OwesAmong (parents_in k.held next) rest more → All (IsFrom k id) more
due_next id next h k rest more w all i owes =
    All-weaker (λ q. Contains rest q ⊎ Contains (parents_in k.held next) q) (IsFrom k id)
    (λ q e. ⊎_elim (λ c. rises_grown h k id q w (All-contains (IsFrom h id) rest q all c))
    (λ c. IsFrom.parent (rises_grown h k id next w i) c) e) more owes
