use Rattle.std.proofs.Common.{◌≡◌, ◌≤◌, take}
use Rattle.gixp_graph.specs.Table.{ids_at, KeepsNumbers}
use Rattle.gixp_graph.specs.Visited.{AllVisitedNamed}
use Rattle.gixp_graph.specs.Waiting.{AllQueuedNamed}
use Rattle.gixp_graph.specs.Walk.{walk_of, VisitsSome, VisitsEach, AsksAll}
use Rattle.gixp_graph.proofs.walk.visit_each.Given as goal

-- the commits of the numbers so far were visited
abbrev pub invariant-loop-number : goal.invariant-loop-number
invariant-loop-number g l = record {
  same : g.O.Objects.contents l.objects ≡ g.O.Objects.contents l.fn.objects;
  refusals : g.O.Objects.refusals l.objects ≡ g.O.Objects.refusals l.fn.objects;
  failures : g.O.Objects.failures l.fn.objects ≤ g.O.Objects.failures l.objects;
  kept : KeepsNumbers l.fn.commits.ids l.commits.ids;
  visited_named : AllVisitedNamed l.commits.ids l.visited;
  queue_named : AllQueuedNamed l.commits.ids l.queue;
  each : VisitsEach (g.O.Objects.contents l.fn.objects) (ids_at l.fn.commits.ids (take l.number-index l.numbers))
      (walk_of l.fn.commits l.fn.visited l.fn.queue) (walk_of l.commits l.visited l.queue);
  asked : AsksAll (g.O.Objects.contents l.fn.objects) (ids_at l.fn.commits.ids (take l.number-index l.numbers))
      (walk_of l.fn.commits l.fn.visited l.fn.queue) (walk_of l.commits l.visited l.queue) (g.O.Objects.asked l.fn.objects)
      (g.O.Objects.asked l.objects);
  some : VisitsSome (g.O.Objects.contents l.fn.objects) (ids_at l.fn.commits.ids l.numbers) l.fn.commits.held l.commits.held;
}
