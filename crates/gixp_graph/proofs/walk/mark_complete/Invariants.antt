use Rattle.std.proofs.Common.{◌≡◌, ◌+◌, ◌≤◌, length, Some}
use Rattle.gixp_graph.specs.GraphData.{GraphData, graph_of}
use Rattle.gixp_graph.specs.Visited.{is_visited, AllVisitedNamed}
use Rattle.gixp_graph.specs.Waiting.{AllQueuedNamed}
use Rattle.gixp_graph.specs.Walk.{walk_of, IsWalk, AllVisited, HasAsked, left}
use Rattle.gixp_graph.proofs.walk.mark_complete.Given as goal

-- a walk from the tips
abbrev pub invariant-loop-newest : goal.invariant-loop-newest
invariant-loop-newest g l =
    let start : GraphData = graph_of (g.O.Objects.contents l.fn.objects) l.fn.commits.held in
    record {
      same : g.O.Objects.contents l.objects ≡ g.O.Objects.contents l.fn.objects;
      refusals : g.O.Objects.refusals l.objects ≡ g.O.Objects.refusals l.fn.objects;
      failures : g.O.Objects.failures l.fn.objects ≤ g.O.Objects.failures l.objects;
      cut : l.fn.cutoff ≡ Some l.cutoff;
      visited_named : AllVisitedNamed l.commits.ids l.visited;
      queue_named : AllQueuedNamed l.commits.ids l.queue;
      walk : IsWalk start l.ids l.fn.cutoff (walk_of l.commits l.visited l.queue);
      asked : HasAsked start l.ids l.fn.cutoff (g.O.Objects.asked l.fn.objects) (is_visited l.commits.ids l.visited)
          (g.O.Objects.asked l.objects);
      tips : AllVisited (is_visited l.commits.ids l.visited) l.ids;
    }

-- the number of commits that weren't visited, and of those that are queued
abbrev pub decreases-loop-newest : goal.decreases-loop-newest
decreases-loop-newest g l =
    left (graph_of (g.O.Objects.contents l.fn.objects) l.fn.commits.held) (is_visited l.commits.ids l.visited) + length l.queue
