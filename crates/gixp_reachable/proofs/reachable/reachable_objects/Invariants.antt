use Rattle.std.proofs.Common.{◌≡◌, ◌≤◌}
use Rattle.gixp_reachable.specs.Traversal.{traversed, IsTraversal, HasAskedFound, look_ups_left}
use Rattle.gixp_reachable.proofs.reachable.reachable_objects.Given as goal

abbrev pub invariant-loop-id : goal.invariant-loop-id
invariant-loop-id g l = record {
  traversal : IsTraversal (g.O.Objects.contents l.fn.objects) l.fn.tips (traversed l.found l.waiting.items);
  asked : HasAskedFound (traversed l.found l.waiting.items) (g.O.Objects.asked l.fn.objects) (g.O.Objects.asked l.objects);
  contents : g.O.Objects.contents l.objects ≡ g.O.Objects.contents l.fn.objects;
  refusals : g.O.Objects.refusals l.objects ≡ g.O.Objects.refusals l.fn.objects;
  failures : g.O.Objects.failures l.fn.objects ≤ g.O.Objects.failures l.objects;
}

-- each step takes an id that waits
abbrev pub decreases-loop-id : goal.decreases-loop-id
decreases-loop-id g l = look_ups_left (g.O.Objects.contents l.fn.objects) (traversed l.found l.waiting.items)
