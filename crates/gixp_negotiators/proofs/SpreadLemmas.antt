-- The mark of a common commit spreads, step by step.
use Rattle.std.proofs.Common.{◌≡◌, ◌∙◌, inl, inr, ⊎_elim, ℕ, ◌+◌, ◌<◌, Bool, true, false, length, take, get_or, List, [], ◌∷◌, ◌++◌, refl, sym, ap, subst, arith, true≢false}
use Rattle.std.specs.Prelude.{All, Contains, IsSome, is_some}
use Rattle.std.specs.FinMap as finite
use Rattle.std.specs.Ordering.{eq_by_cmp}
use Rattle.std.proofs.lemmas.Bool.{or_cases}
use Rattle.std.proofs.lemmas.List.{append_assoc}
use Rattle.std.proofs.lemmas.List.Elements.{All-weaker, All-more, All-push, Contains-append_left, Contains-append_right, Contains-append_cases, Contains-push, Contains-push_cases}
use Rattle.gixp_hash.specs.declared.object_id.ObjectId.{ObjectId}
use Rattle.gixp_hash.specs.ObjectId.{id_cmp}
use Rattle.gixp_graph.specs.Object.{Objects, commit_at}
use Rattle.gixp_graph.specs.GraphData.{GraphData, parents_in}
use Rattle.gixp_graph.specs.GraphLaws.{same_from}
use Rattle.gixp_negotiators.specs.Marks.{COMMON, SEEN, has_mark}
use Rattle.gixp_negotiators.specs.AddedMarks.{Grows, MarksNoCommon, MarksCommonOnly}
use Rattle.gixp_negotiators.specs.MarkLaws.{held_marked}
use Rattle.gixp_negotiators.specs.Spread.{is_there, was_seen, BecomesCommon, HasCommonParents, Spreads, SpreadsBut, KeepsSpread, StaysSpread, SpreadsFrom, SpreadsAllFrom}
use Rattle.gixp_negotiators.specs.NewlyCommon.{IsNewlyCommon}
use Rattle.gixp_negotiators.proofs.GrowLemmas.{grows_none, grows_on}

none_due : (id : ObjectId) → Contains [] id → ⊥
none_due id c = absurd (omega (arith, c.1))

module _ (kind : GraphData → ObjectId → Bool) (stays : (g h : GraphData) → Grows g h → (id : ObjectId) → kind g id ≡ true
    → kind h id ≡ true) where
  -- parents that are common stay common
  pub common_on : (f g h : GraphData) (id : ObjectId) → Grows g h → IsSome (finite.get g.held id) → HasCommonParents kind f g id
      → HasCommonParents kind f h id
  common_on f g h id w held all = subst (All (BecomesCommon kind f h)) (sym (w.parents id held))
      (All-weaker (BecomesCommon kind f g) (BecomesCommon kind f h) (λ p c k. w.marks COMMON p (c k)) (parents_in g.held id) all)

  -- parents that are common since one graph are common since an earlier one
  pub common_since : (f g h : GraphData) (id : ObjectId) → Grows f g → HasCommonParents kind g h id → HasCommonParents kind f h id
  common_since f g h id v all = All-weaker (BecomesCommon kind g h) (BecomesCommon kind f h) (λ p c k. c (stays f g v p k))
      (parents_in h.held id) all

  -- the parents of a commit that became common
  pub parents_common : (g h : GraphData) (id : ObjectId) (xs : List ObjectId) → Grows g h → has_mark SEEN g.held id ≡ true
      → xs ≡ parents_in g.held id → All (BecomesCommon kind g h) xs → HasCommonParents kind g h id
  parents_common g h id xs w seen is all = subst (All (BecomesCommon kind g h)) (is ∙ sym (w.parents id (held_marked g id SEEN seen))) all

  -- one more commit that became common
  pub common_more : (g h k : GraphData) (xs : List ObjectId) (i : ℕ) (d : ObjectId) → i < length xs → Grows g h → Grows h k → All
      (BecomesCommon kind g h) (take i xs) → BecomesCommon kind h k (get_or xs i d) → All (BecomesCommon kind g k) (take (i + 1) xs)
  common_more g h k xs i d lt v w all one = All-more (BecomesCommon kind g k) xs i d lt
      (All-weaker (BecomesCommon kind g h) (BecomesCommon kind g k) (λ q m s. w.marks COMMON q (m s)) (take i xs) all)
      (λ s. one (stays g h v (get_or xs i d) s))

  -- ---- steps

  pub spread_none : (due : List ObjectId) (g : GraphData) → SpreadsBut kind due g g
  spread_none due g id seen lacks common = absurd (true≢false (sym common ∙ lacks))

  -- the list of due commits may grow
  pub spread_moved : (xs ys : List ObjectId) (g h : GraphData) → ((id : ObjectId) → Contains xs id → Contains ys id)
      → SpreadsBut kind xs g h → SpreadsBut kind ys g h
  spread_moved xs ys g h in' s id seen lacks common = ⊎_elim (λ c. inl (in' id c)) inr (s id seen lacks common)

  -- no commit becomes common
  pub spread_grown : (due : List ObjectId) (f g h : GraphData) → Grows g h → MarksNoCommon g h → SpreadsBut kind due f g
      → SpreadsBut kind due f h
  spread_grown due f g h w none s id seen lacks common =
      ⊎_elim inl (λ p. inr (common_on f g h id w (held_marked g id COMMON (none id common)) p)) (s id seen lacks (none id common))

  -- a commit becomes common and due
  pub spread_settled : (due : List ObjectId) (one : ObjectId) (f g h : GraphData) → Grows g h → MarksCommonOnly one g h
      → SpreadsBut kind due f g → SpreadsBut kind (due ++ one ∷ []) f h
  spread_settled due one f g h w only s id seen lacks common = ⊎_elim
      (λ was. ⊎_elim (λ c. inl (Contains-append_left due (one ∷ []) id c)) (λ p. inr (common_on f g h id w (held_marked g id COMMON was) p))
      (s id seen lacks was))
      (λ e. inl (subst (Contains (due ++ one ∷ [])) (sym (same_from id one e)) (Contains-push due one)))
      (or_cases (has_mark COMMON g.held id) (eq_by_cmp id_cmp id one) (only id common))

  -- a commit is queued that wasn't seen
  pub spread_pushed : (due : List ObjectId) (one : ObjectId) (f g h : GraphData) → Grows f g → Grows g h → MarksCommonOnly one g h
      → has_mark SEEN g.held one ≡ false → SpreadsBut kind due f g → SpreadsBut kind due f h
  spread_pushed due one f g h v w only unseen s id seen lacks common = ⊎_elim
      (λ was. ⊎_elim inl (λ p. inr (common_on f g h id w (held_marked g id COMMON was) p)) (s id seen lacks was))
      (λ e. absurd (true≢false (sym (v.marks SEEN one (subst (λ i. has_mark SEEN f.held i ≡ true) (same_from id one e) seen)) ∙ unseen)))
      (or_cases (has_mark COMMON g.held id) (eq_by_cmp id_cmp id one) (only id common))

  -- a commit whose parents are common is no longer due
  pub spread_paid : (due : List ObjectId) (one : ObjectId) (f g h : GraphData) → Grows f g
      → (has_mark SEEN f.held one ≡ true → HasCommonParents kind g h one) → SpreadsBut kind (one ∷ due) f h → SpreadsBut kind due f h
  spread_paid due one f g h v paid s id seen lacks common = ⊎_elim
      (λ c. ⊎_elim
      (λ first. ⊎_elim (λ none. absurd (none_due id none))
      (λ same. inr (subst (HasCommonParents kind f h) same (common_since f g h one v
      (paid (subst (λ i. has_mark SEEN f.held i ≡ true) (sym same) seen))))) (Contains-push_cases [] one id first))
      inl
      (Contains-append_cases (one ∷ []) due id c))
      inr
      (s id seen lacks common)

  -- a commit that wasn't seen is no longer due
  pub spread_unseen : (due : List ObjectId) (one : ObjectId) (f g h : GraphData) → Grows f g → has_mark SEEN g.held one ≡ false
      → SpreadsBut kind (one ∷ due) f h → SpreadsBut kind due f h
  spread_unseen due one f g h v unseen s = spread_paid due one f g h v (λ seen. absurd (true≢false (sym
      (v.marks SEEN one seen) ∙ unseen))) s

  -- the last due commit may come first
  pub spread_popped : (due rest : List ObjectId) (one : ObjectId) (f g : GraphData) → due ≡ rest ++ one ∷ [] → SpreadsBut kind due f g
      → SpreadsBut kind (one ∷ rest) f g
  spread_popped due rest one f g is s = spread_moved due (one ∷ rest) f g
      (λ id c. ⊎_elim (λ more. Contains-append_right (one ∷ []) rest id more)
      (λ same. subst (Contains (one ∷ rest)) same (Contains-append_left (one ∷ []) rest one (Contains-push [] one)))
      (Contains-push_cases rest one id (subst (λ xs. Contains xs id) is c))) s

  -- with no due commit the marks have spread
  pub spread_all : (due : List ObjectId) (g h : GraphData) → due ≡ [] → SpreadsBut kind due g h → Spreads kind g h
  spread_all due g h is s id seen lacks common = ⊎_elim (λ c. absurd (none_due id (subst (λ xs. Contains xs id) is c))) (λ p. p)
      (s id seen lacks common)

  pub spreads_none : (g : GraphData) → Spreads kind g g
  spreads_none g id seen lacks common = absurd (true≢false (sym common ∙ lacks))

  pub spread_but : (due : List ObjectId) (g h : GraphData) → Spreads kind g h → SpreadsBut kind due g h
  spread_but due g h s id seen lacks common = inr (s id seen lacks common)

  -- ---- steps that may leave commits due

  pub kept_none : (due : List ObjectId) (g : GraphData) → KeepsSpread kind due g due g
  unfolding KeepsSpread
  kept_none due g f xs v s = s

  pub kept_on : (due more rest : List ObjectId) (g h k : GraphData) → Grows g h → KeepsSpread kind due g more h
      → KeepsSpread kind more h rest k → KeepsSpread kind due g rest k
  unfolding KeepsSpread
  kept_on due more rest g h k w a b f xs v s = b f xs (grows_on f g h v w) (a f xs v s)

  pub kept_grown : (due : List ObjectId) (g h : GraphData) → Grows g h → MarksNoCommon g h → KeepsSpread kind due g due h
  unfolding KeepsSpread
  kept_grown due g h w none f xs v s = spread_grown (xs ++ due) f g h w none s

  pub kept_settled : (due more : List ObjectId) (one : ObjectId) (g h : GraphData) → Grows g h → MarksCommonOnly one g h → more ≡ due
      ++ one ∷ [] → KeepsSpread kind due g more h
  unfolding KeepsSpread
  kept_settled due more one g h w only is f xs v s = subst (λ ys. SpreadsBut kind ys f h)
      (append_assoc xs due (one ∷ []) ∙ ap (λ ys. xs ++ ys) (sym is)) (spread_settled (xs ++ due) one f g h w only s)

  -- ---- steps that leave no commit due

  pub stays_none : (g : GraphData) → StaysSpread kind g g
  unfolding StaysSpread
  stays_none g f v s = s

  pub stays_on : (g h k : GraphData) → Grows g h → StaysSpread kind g h → StaysSpread kind h k → StaysSpread kind g k
  unfolding StaysSpread
  stays_on g h k w a b f v s = b f (grows_on f g h v w) (a f v s)

  pub stays_grown : (g h : GraphData) → Grows g h → MarksNoCommon g h → StaysSpread kind g h
  unfolding StaysSpread
  stays_grown g h w none f v s = spread_all [] f h refl (spread_grown [] f g h w none (spread_but [] f g s))

  pub stays_pushed : (one : ObjectId) (g h : GraphData) → Grows g h → MarksCommonOnly one g h → has_mark SEEN g.held one ≡ false
      → StaysSpread kind g h
  unfolding StaysSpread
  stays_pushed one g h w only unseen f v s = spread_all [] f h refl (spread_pushed [] one f g h v w only unseen (spread_but [] f g s))

  -- a commit becomes common, and the mark spreads from it
  pub stays_settled : (one : ObjectId) (g h k : GraphData) → Grows g h → MarksCommonOnly one g h → SpreadsAllFrom kind one h k
      → StaysSpread kind g k
  unfolding StaysSpread SpreadsAllFrom
  stays_settled one g h k w only all f v s = all f (grows_on f g h v w) (spread_settled [] one f g h w only (spread_but [] f g s))

  -- the mark spreads from a commit that need not be common
  pub stays_through : (one : ObjectId) (g h k : GraphData) → Grows g h → MarksNoCommon g h → SpreadsAllFrom kind one h k
      → StaysSpread kind g k
  unfolding StaysSpread SpreadsAllFrom
  stays_through one g h k w none all f v s = all f (grows_on f g h v w)
      (spread_but (one ∷ []) f h (spread_all [] f h refl (spread_grown [] f g h w none (spread_but [] f g s))))

  -- ---- spreading from a commit

  -- the commit isn't in the objects, or wasn't seen
  pub from_unseen : (one : ObjectId) (due : List ObjectId) (g h : GraphData) → Grows g h → MarksNoCommon g h
      → has_mark SEEN h.held one ≡ false → SpreadsFrom kind one due g due h
  unfolding SpreadsFrom
  from_unseen one due g h w none unseen f v s =
      spread_unseen due one f h h (grows_on f g h v w) unseen (spread_grown (one ∷ due) f g h w none s)

  -- the commit is queued
  pub from_pushed : (one : ObjectId) (due : List ObjectId) (g h k : GraphData) → Grows g h → MarksNoCommon g h → Grows h k
      → MarksNoCommon h k → has_mark SEEN h.held one ≡ false → SpreadsFrom kind one due g due k
  unfolding SpreadsFrom
  from_pushed one due g h k w none z none' unseen f v s = spread_unseen due one f h k (grows_on f g h v w) unseen
      (spread_grown (one ∷ due) f h k z none' (spread_grown (one ∷ due) f g h w none s))

  -- its parents become common
  pub from_parents : (one : ObjectId) (due more : List ObjectId) (g h k : GraphData) → Grows g h → MarksNoCommon g h
      → (has_mark SEEN h.held one ≡ true → HasCommonParents kind h k one) → KeepsSpread kind due h more k
      → SpreadsFrom kind one due g more k
  unfolding SpreadsFrom KeepsSpread
  from_parents one due more g h k w none common keep f v s =
      let z : Grows f h = grows_on f g h v w in
      spread_paid more one f h k z (λ seen. common (z.marks SEEN one seen)) (keep f (one ∷ []) z (spread_grown (one ∷ due) f g h w none s))

  -- one step from a due commit
  pub from_next : (first one : ObjectId) (due rest more : List ObjectId) (g h k : GraphData) → Grows g h → due ≡ rest ++ one ∷ []
      → SpreadsFrom kind one rest h more k → SpreadsFrom kind first [] g due h → SpreadsFrom kind first [] g more k
  unfolding SpreadsFrom
  from_next first one due rest more g h k w is step before f v s =
      step f (grows_on f g h v w) (spread_popped due rest one f h is (before f v s))

  -- the last step
  pub from_all : (one : ObjectId) (due : List ObjectId) (g h : GraphData) → due ≡ [] → SpreadsFrom kind one [] g due h
      → SpreadsAllFrom kind one g h
  unfolding SpreadsFrom SpreadsAllFrom
  from_all one due g h is before f v s = spread_all due f h is (before f v s)

-- the due commits of a step that began with none due
pub kept_from : (kind : GraphData → ObjectId → Bool) (before due : List ObjectId) (g h : GraphData) → before ≡ []
    → KeepsSpread kind before g due h → SpreadsBut kind due g h
unfolding KeepsSpread
kept_from kind before due g h is keep = keep g [] (grows_none g) (λ id seen lacks common. absurd (true≢false (sym common ∙ lacks)))

-- the first step from a commit
pub from_first : (kind : GraphData → ObjectId → Bool) (one : ObjectId) (before due : List ObjectId) (g h : GraphData) → before ≡ []
    → SpreadsFrom kind one before g due h → SpreadsFrom kind one [] g due h
from_first kind one before due g h is step = subst (λ xs. SpreadsFrom kind one xs g due h) is step

-- a further step from a due commit
pub from_step : (kind : GraphData → ObjectId → Bool) (one : ObjectId) (before due : List ObjectId) (f g h : GraphData) → Grows f g
    → SpreadsFrom kind one before g due h → SpreadsBut kind (one ∷ before) f g → SpreadsBut kind due f h
unfolding SpreadsFrom
from_step kind one before due f g h v step s = step f v s

-- a commit of the objects stays one
pub stays_there : (g h : GraphData) → Grows g h → (id : ObjectId) → is_there g id ≡ true → is_there h id ≡ true
stays_there g h w id e = subst (λ (o : Objects). is_some (commit_at o id) ≡ true) (sym w.objects) e

-- a commit that was seen stays seen
pub stays_seen : (g h : GraphData) → Grows g h → (id : ObjectId) → was_seen g id ≡ true → was_seen h id ≡ true
stays_seen g h w id e = w.marks SEEN id e

-- a commit that lacks a mark after a step lacked it before
lacked : (a b : Bool) → (a ≡ true → b ≡ true) → b ≡ false → a ≡ false
lacked true b k e = absurd (true≢false (sym (k refl) ∙ e))
lacked false b k e = refl

-- ---- commits that became common

pub newly_grown : (f g h : GraphData) (due : List ObjectId) → Grows g h → All (IsNewlyCommon f g) due → All (IsNewlyCommon f h) due
newly_grown f g h due w all = All-weaker (IsNewlyCommon f g) (IsNewlyCommon f h) (λ id n. (n.0, w.marks COMMON id n.1)) due all

pub newly_pushed : (f g h : GraphData) (due more : List ObjectId) (one : ObjectId) → Grows f g → Grows g h → has_mark COMMON g.held one
    ≡ false → has_mark COMMON h.held one ≡ true → more ≡ due ++ one ∷ [] → All (IsNewlyCommon f g) due → All (IsNewlyCommon f h) more
newly_pushed f g h due more one v w before after is all = subst (All (IsNewlyCommon f h)) (sym is) (All-push (IsNewlyCommon f h) due one
    (newly_grown f g h due w all) (lacked (has_mark COMMON f.held one) (has_mark COMMON g.held one) (v.marks COMMON one) before, after))
