-- The mark of a common commit spreads to all commits that it leads to.
use Rattle.std.proofs.Common.{◌≡◌, ◌∙◌, Bool, true, true≢false, refl, subst, sym}
use Rattle.std.specs.Prelude.{Contains}
use Rattle.std.proofs.lemmas.List.Elements.{All-contains}
use Rattle.gixp_hash.specs.declared.object_id.ObjectId.{ObjectId}
use Rattle.gixp_graph.specs.GraphData.{GraphData, parents_in}
use Rattle.gixp_negotiators.specs.Marks.{COMMON, SEEN, has_mark}
use Rattle.gixp_negotiators.specs.AddedMarks.{Grows}
use Rattle.gixp_negotiators.specs.MarkLaws.{held_marked}
use Rattle.gixp_negotiators.specs.Spread.{BecomesCommon, Spreads, StaysSpread, LeadsTo}

-- once the marks have spread, all commits that a common commit leads to are common
pub ancestors_common : (kind : GraphData → ObjectId → Bool) (g h : GraphData) (id q : ObjectId) → Grows g h → Spreads kind g h
    → has_mark COMMON h.held id ≡ true → LeadsTo kind g id q → has_mark COMMON h.held q ≡ true
ancestors_common kind g h id q w s c LeadsTo.itself = c
ancestors_common kind g h id q w s c (LeadsTo.parent {child = child} leads seen lacks is k) =
    All-contains (BecomesCommon kind g h) (parents_in h.held child) q (s child seen lacks (ancestors_common kind g h id child w s c leads))
    (subst (λ xs. Contains xs q) (sym (w.parents child (held_marked g child SEEN seen))) is) k

same_grows : (g : GraphData) → Grows g g
same_grows g = record { objects = refl; held = λ id s. s; marks = λ b id e. e; complete = λ id. refl; parents = λ id s. refl }

-- a step that keeps the marks spread spreads them
pub spreads_of : (kind : GraphData → ObjectId → Bool) (g h : GraphData) → StaysSpread kind g h → Spreads kind g h
unfolding StaysSpread
spreads_of kind g h a = a g (same_grows g) (λ id seen lacks common. absurd (true≢false (sym common ∙ lacks)))
