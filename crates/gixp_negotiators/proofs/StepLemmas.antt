-- Steps of a negotiator.
use Rattle.std.proofs.Common.{◌≡◌, ℕ, ◌+◌, ◌<◌, ◌∙◌, Bool, true, false, List, length, take, get_or, refl, sym, subst, arith, true≢false, Result, Ok, Err}
use Rattle.std.proofs.lemmas.List.Elements.{All-more, All-weaker}
use Rattle.std.specs.Result.{OnErr}
use Rattle.std.specs.Prelude.{IsSome, All}
use Rattle.std.specs.FinMap as finite
use Rattle.gixp_hash.specs.declared.object_id.ObjectId.{ObjectId}
use Rattle.gixp_graph.specs.declared.flags.Flags.{Flags}
use Rattle.gixp_graph.specs.Object.{commit_at}
use Rattle.gixp_graph.specs.GraphData.{GraphData, parents_in}
use Rattle.gixp_negotiators.specs.Marks.{COMMON, COMMON_REF, SEEN, POPPED, has_all, has_mark}
use Rattle.gixp_negotiators.specs.AddedMarks.{Grows, AddsNone, SeesNone, MarksNoCommon}
use Rattle.gixp_negotiators.specs.CommitMarks.{IsMarkedIfThere, IsFoundWith, Claims}
use Rattle.gixp_negotiators.specs.Offered.{IsOffered}
use Rattle.gixp_negotiators.specs.MarkLaws.{grows_left, claimed_left}
use Rattle.gixp_negotiators.proofs.GrowLemmas.{grows_on}

-- a commit that lacks a mark after a step lacked it before
lacked : (a b : Bool) → (a ≡ true → b ≡ true) → b ≡ false → a ≡ false
lacked true b k e = absurd (true≢false (sym (k refl) ∙ e))
lacked false b k e = refl

-- a commit gets a mark that it lacked
pub claims : (mark : ℕ) (g h k : GraphData) (id : ObjectId) (flags : Flags) → Grows g h → Grows h k → IsFoundWith h id flags
    → ((b : ℕ) → has_all b 0 ≡ false → AddsNone b g h) → has_all mark flags.0 ≡ false → has_mark mark k.held id ≡ true
    → Claims mark g k id flags
claims mark g h k id flags v w f none lacks has =
    let read : IsSome (commit_at g.objects id) = subst (λ o. IsSome (commit_at o id)) v.objects f.read in
    let before : has_mark mark g.held id ≡ false = lacked (has_mark mark g.held id) (has_mark mark h.held id) (v.marks mark id)
    (f.marks mark ∙ lacks) in
    record {
      read = read;
      held = w.held id f.held;
      before = before;
      after = has;
      less = claimed_left mark g k (grows_on g h k v w) id read before has;
      lacks = λ b e. lacked (has_mark b g.held id) (has_mark b h.held id) (v.marks b id) (f.marks b ∙ e);
      had = λ b e. w.marks b id (f.marks b ∙ e);
      was = λ b z e. none b z id (f.marks b ∙ e);
    }

-- a commit that was taken is offered, also after further steps
pub offered : (g h k : GraphData) (id : ObjectId) (flags : Flags) → Claims POPPED g h id flags → has_all COMMON flags.0 ≡ false → Grows h k
    → MarksNoCommon g h → (has_all COMMON_REF flags.0 ≡ false → MarksNoCommon h k) → All (IsMarkedIfThere SEEN g k) (parents_in k.held id)
    → IsOffered g k id
offered g h k id flags c lacks w none lone parents = record {
  read = c.read;
  held = w.held id c.held;
  uncommon = c.lacks COMMON lacks;
  before = c.before;
  after = w.marks POPPED id c.after;
  stays = λ e. lacked (has_mark COMMON k.held id) (has_mark COMMON g.held id) (λ m. none id
      (lone (lacked (has_all COMMON_REF flags.0) (has_mark COMMON_REF k.held id) (λ t. w.marks COMMON_REF id
      (c.had COMMON_REF t)) e) id m)) (c.lacks COMMON lacks);
  less = omega (arith, c.less, grows_left POPPED h k w);
  parents = parents;
}

-- an offer since one graph is an offer since an earlier one
pub offered_since : (g h k : GraphData) (id : ObjectId) → Grows g h → IsOffered h k id → IsOffered g k id
offered_since g h k id v o = record {
  read = subst (λ m. IsSome (commit_at m id)) v.objects o.read;
  held = o.held;
  uncommon = lacked (has_mark COMMON g.held id) (has_mark COMMON h.held id) (v.marks COMMON id) o.uncommon;
  before = lacked (has_mark POPPED g.held id) (has_mark POPPED h.held id) (v.marks POPPED id) o.before;
  after = o.after;
  stays = o.stays;
  less = omega (arith, o.less, grows_left POPPED g h v);
  parents = subst (λ m. All (λ q. IsSome (commit_at m q) → has_mark SEEN k.held q ≡ true) (parents_in k.held id)) v.objects o.parents;
}

pub any_err : {A E : Type 0} {P : Type 0} → (r : Result A E) → P → OnErr r P
any_err (Ok a) p = tt
any_err (Err e) p = p

-- ---- parents that were seen

-- one more commit that was seen
pub marked_more : (g h k : GraphData) (xs : List ObjectId) (i : ℕ) (d : ObjectId) → i < length xs → Grows g h → Grows h k
    → All (IsMarkedIfThere SEEN g h) (take i xs) → IsMarkedIfThere SEEN h k (get_or xs i d) → All (IsMarkedIfThere SEEN g k) (take
    (i + 1) xs)
marked_more g h k xs i d lt v w all one = All-more (IsMarkedIfThere SEEN g k) xs i d lt
    (All-weaker (IsMarkedIfThere SEEN g h) (IsMarkedIfThere SEEN g k) (λ q m s. w.marks SEEN q (m s)) (take i xs) all)
    (λ s. one (subst (λ o. IsSome (commit_at o (get_or xs i d))) (sym v.objects) s))

-- the parents of a commit
pub parents_marked : (g h k : GraphData) (id : ObjectId) (xs : List ObjectId) → Grows g h → Grows h k → IsSome (finite.get h.held id)
    → xs ≡ parents_in h.held id → All (IsMarkedIfThere SEEN h k) xs → All (IsMarkedIfThere SEEN g k) (parents_in k.held id)
parents_marked g h k id xs v w held is all =
    subst (All (IsMarkedIfThere SEEN g k)) (is ∙ sym (w.parents id held))
    (All-weaker (IsMarkedIfThere SEEN h k) (IsMarkedIfThere SEEN g k) (λ q m s. m (subst (λ o. IsSome (commit_at o q))
    (sym v.objects) s)) xs all)

-- a commit that is seen was seen before, where none was newly seen
pub unseen_marked : (g h : GraphData) (id : ObjectId) → SeesNone g h → has_mark SEEN h.held id ≡ true → has_mark SEEN g.held id ≡ false → ⊥
unseen_marked g h id sees seen unseen = true≢false (sym (sees id seen) ∙ unseen)

-- a commit that wasn't seen isn't, where none was newly seen
pub none_seen : (g h : GraphData) (id : ObjectId) → SeesNone g h → has_mark SEEN g.held id ≡ false → has_mark SEEN h.held id ≡ false
none_seen g h id sees unseen = lacked (has_mark SEEN h.held id) (has_mark SEEN g.held id) (sees id) unseen
