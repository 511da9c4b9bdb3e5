-- Which ids were read.
use Rattle.std.proofs.Common.{◌≡◌, ◌∙◌, ⊎_elim, true, false, true≢false, List, None, sym, ap, subst}
use Rattle.std.specs.Ordering.{eq_by_cmp}
use Rattle.std.specs.FinMap as finite
use Rattle.gixp_hash.specs.declared.object_id.ObjectId.{ObjectId}
use Rattle.gixp_hash.specs.ObjectId.{id_cmp}
use Rattle.gixp_graph.specs.GraphData.{GraphData}
use Rattle.gixp_graph.specs.Asked.{AsksWhere, AsksEach}
use Rattle.gixp_graph.specs.GraphLaws.{same_from}
use Rattle.gixp_graph.proofs.AskedLemmas.{asks_weaker, asks_more}
use Rattle.gixp_graph.proofs.MarkLemmas.{true_or_false}
use Rattle.gixp_updates.specs.Search.{Search, LooksUp, KeepsAsked}
use Rattle.gixp_updates.proofs.LookLemmas.{looks_on}

-- a commit that isn't held wasn't held before
unheld : (first g : GraphData) → LooksUp first g → (id : ObjectId) → finite.get g.held id ≡ None → finite.get first.held id ≡ None
unheld first g l id u = ⊎_elim (λ e. sym e ∙ u) (λ e. e.0) (l.held id)

-- nothing more was read
pub asked_same : (g : GraphData) (old new : Search) → ((q : ObjectId) → old.seen q ≡ true → new.seen q ≡ true)
    → (before after : List ObjectId) → after ≡ before → KeepsAsked g old new before after
asked_same g old new keeps before after e first start l a =
    subst (AsksEach (λ q. (new.seen q ≡ true) × (finite.get first.held q ≡ None)) start) (sym e)
    (asks_weaker (λ q. (old.seen q ≡ true) × (finite.get first.held q ≡ None))
    (λ q. (new.seen q ≡ true) × (finite.get first.held q ≡ None)) (λ q p. (keeps q p.0, p.1)) start before a)

-- an id that wasn't looked up before
pub asked_one : (g : GraphData) (id : ObjectId) (old new : Search) → old.seen id ≡ false → new.seen id ≡ true
    → ((q : ObjectId) → old.seen q ≡ true → new.seen q ≡ true) → (before after : List ObjectId)
    → AsksWhere (finite.get g.held id ≡ None) id before after → KeepsAsked g old new before after
asked_one g id old new fresh here keeps before after asks first start l a = ⊎_elim
    (λ e. asked_same g old new keeps before after e first start l a)
    (λ e. asks_more (λ q. (old.seen q ≡ true) × (finite.get first.held q ≡ None))
    (λ q. (new.seen q ≡ true) × (finite.get first.held q ≡ None)) (λ q p. (keeps q p.0, p.1)) id (here, unheld first g l id e.0)
    (λ q p. ⊎_elim (λ t. absurd (true≢false (sym p.0 ∙ ap old.seen (sym (same_from id q t)) ∙ fresh))) (λ f. f)
    (true_or_false (eq_by_cmp id_cmp id q)))
    start before after e.1 a)
    asks

-- several steps in a row
pub asked_on : (g h : GraphData) → LooksUp g h → (a b c : Search) (before between after : List ObjectId)
    → KeepsAsked g a b before between → KeepsAsked h b c between after → KeepsAsked g a c before after
asked_on g h l a b c before between after k m first start f asked = m first start (looks_on first g h f l) (k first start f asked)
