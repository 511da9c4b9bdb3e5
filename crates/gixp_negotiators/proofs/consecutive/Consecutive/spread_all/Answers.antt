use Rattle.gixp_negotiators.proofs.FromLemmas.{rises_first, rises_next, due_first, due_next}
use Rattle.std.proofs.Common.{◌≡◌, ◌++◌, ◌∷◌, Some, arith, rules, true, []}
use Rattle.std.proofs.lemmas.Bool.{or_right}
use Rattle.std.proofs.lemmas.List.Elements.{All-same, All-nil, All-pop}
use Rattle.gixp_negotiators.specs.Marks.{COMMON, SEEN, has_mark}
use Rattle.gixp_negotiators.specs.MarkLaws.{held_marked}
use Rattle.gixp_negotiators.specs.Spread.{is_there}
use Rattle.gixp_negotiators.specs.NewlyCommon.{IsFrom}
use Rattle.gixp_negotiators.proofs.InTurnLemmas.{steps_on}
use Rattle.gixp_negotiators.proofs.SpreadLemmas.{stays_there, common_on, from_first, from_next, from_all}
use Rattle.gixp_negotiators.proofs.SeeLemmas.{sees_on, common_popped}
use Rattle.gixp_negotiators.proofs.LookedLemmas.{looked_on, looked_ok, looked_from}
use Rattle.gixp_negotiators.proofs.consecutive.Consecutive.spread_all.Goals as goal

pub loop-next-init : goal.loop-next-init
loop-next-init g c = record {
  steps = c.in_ok-spread.ensures.steps;
  room = c.in_ok-spread.ensures.room;
  spreads = from_first is_there c.args.id.now _ _ _ _ c.new-due.ensures.items c.in_ok-spread.ensures.spreads;
  ancestors = c.in_ok-spread.ensures.ancestors;
  finds = c.in_ok-spread.ensures.finds;
  common = c.in_ok-spread.ensures.common (All-same (λ q. has_mark COMMON c.args.graph.now.graph.held q ≡ true) _ [] c.new-due.ensures.items
      (All-nil (λ q. has_mark COMMON c.args.graph.now.graph.held q ≡ true)));
  only = rises_first c.args.id.now c.args.graph.now.graph c.spread.new.graph.graph c.in_ok-spread.ensures.among;
  owed = due_first c.args.id.now c.spread.new.graph.graph _ _ c.new-due.ensures.items c.in_ok-spread.ensures.owes;
  looks = looked_ok c.in_ok-spread.ensures.looks;
}

pub loop-next-preserved : goal.loop-next-preserved
loop-next-preserved g c =
    let is : c.loop-next.due.items ≡ c.pop.new.self.items ++ c.in-Some.next ∷ [] = rw c.in-Some.is at c.pop.ensures.items in
    let both =
    common_popped c.loop-next.graph.graph c.loop-next.due.items c.pop.new.self.items c.in-Some.next is
    c.loop-next.invariant.common in
    let owed =
    All-pop (IsFrom c.loop-next.graph.graph c.args.id.now) c.loop-next.due.items c.pop.new.self.items (Some c.in-Some.next) is
    c.loop-next.invariant.owed in
    record {
      steps = steps_on c.loop-next.invariant.looks.grows c.loop-next.invariant.steps c.in_ok-spread-2.ensures.steps;
      room = omega (arith, c.loop-next.invariant.room, c.in_ok-spread-2.ensures.room);
      spreads =
          from_next is_there stays_there c.args.id.now c.in-Some.next _ _ _ _ _ _ c.loop-next.invariant.looks.grows is
          c.in_ok-spread-2.ensures.spreads c.loop-next.invariant.spreads;
      ancestors =
          λ seen. common_on is_there stays_there c.args.graph.now.graph c.loop-next.graph.graph c.spread-in-Some.new.graph.graph
          c.args.id.now c.spread-in-Some.ensures.looks.grows
          (held_marked c.loop-next.graph.graph c.args.id.now SEEN (c.loop-next.invariant.looks.grows.marks SEEN c.args.id.now seen))
          (c.loop-next.invariant.ancestors seen);
      finds = λ near. sees_on _ _ _ c.spread-in-Some.ensures.looks.grows (c.loop-next.invariant.finds near)
          (c.in_ok-spread-2.ensures.finds (λ s. or_right (has_mark SEEN c.loop-next.graph.graph.held c.in-Some.next)
          (has_mark COMMON c.loop-next.graph.graph.held c.in-Some.next) both.0));
      common = c.in_ok-spread-2.ensures.common both.1;
      only =
          rises_next c.args.id.now c.in-Some.next c.args.graph.now.graph c.loop-next.graph.graph c.spread-in-Some.new.graph.graph
          c.spread-in-Some.ensures.looks.grows owed.1 c.loop-next.invariant.only c.in_ok-spread-2.ensures.among;
      owed =
          due_next c.args.id.now c.in-Some.next c.loop-next.graph.graph c.spread-in-Some.new.graph.graph _ _
          c.spread-in-Some.ensures.looks.grows owed.0 owed.1 c.in_ok-spread-2.ensures.owes;
      looks = looked_ok (looked_on _ c.loop-next.invariant.looks c.in_ok-spread-2.ensures.looks);
    }

pub returns-clause-spreads : goal.returns-clause-spreads
returns-clause-spreads g c =
    from_all is_there stays_there c.args.id.now c.loop-next.due.items _ _ (search rules) c.loop-next.invariant.spreads

pub returns-clause-only : goal.returns-clause-only
returns-clause-only g c = c.loop-next.invariant.only

pub returns-in_err-spread-clause-looks : goal.returns-in_err-spread-clause-looks
returns-in_err-spread-clause-looks g c = looked_from _ c.from_residual.ensures.1 c.in_err-spread.ensures.looks

pub returns-in_err-spread-2-clause-looks : goal.returns-in_err-spread-2-clause-looks
returns-in_err-spread-2-clause-looks g c = looked_from _ c.from_residual-in_err-spread-2.ensures.1
    (looked_on _ c.loop-next.invariant.looks c.in_err-spread-2.ensures.looks)
