use Rattle.std.proofs.Common.{◌≡◌, ℕ, ◌+◌, ◌≤◌, true, Some}
use Rattle.gixp_graph.specs.Object.{commit_at}
use Rattle.gixp_updates.specs.Limits.{LooksWithin}
use Rattle.gixp_updates.specs.Search.{search_of, unseen, waiting_len, IsSearch, HoldsWaiting, LooksUp, HasAskedFor}
use Rattle.gixp_updates.proofs.refs.ancestor.is_ancestor.Given as goal

abbrev pub invariant-loop-newest : goal.invariant-loop-newest
invariant-loop-newest g l = record {
  search : IsSearch (commit_at l.fn.graph.graph.objects) l.fn.new l.fn.old (search_of l.walk);
  holds : HoldsWaiting l.graph.graph (search_of l.walk);
  graph : LooksUp l.fn.graph.graph l.graph.graph;
  asked : HasAskedFor l.fn.graph.graph (search_of l.walk) l.fn.graph.asked l.graph.asked;
  within : (most : ℕ) → l.fn.most_commits ≡ Some most
      → LooksWithin (commit_at l.fn.graph.graph.objects) l.fn.new most (λ q. (search_of l.walk).seen q ≡ true);
  refusals : l.graph.refusals ≡ l.fn.graph.refusals;
  failures : l.fn.graph.failures ≤ l.graph.failures;
}

-- the number of objects that weren't looked up, and of queued commits
abbrev pub decreases-loop-newest : goal.decreases-loop-newest
decreases-loop-newest g l = unseen l.fn.graph.graph.objects (search_of l.walk) + waiting_len l.walk.heap
