use Rattle.std.proofs.Common.{take, Ok}
use Rattle.gixp_graph.specs.Object.{commit_at}
use Rattle.gixp_updates.specs.Limits.{IsOfMapping, AsksFewEach}
use Rattle.gixp_updates.specs.Modes.{AreUpdates}
use Rattle.gixp_updates.specs.LocalSide.{local_with}
use Rattle.gixp_updates.specs.UpdateError.{Consults}
use Rattle.gixp_updates.proofs.refs.update.update.Given as goal

-- the mappings so far have their updates
abbrev pub invariant-loop-mapping : goal.invariant-loop-mapping
invariant-loop-mapping g l = record {
  updates : AreUpdates
      (local_with g.R.RefStore.refs g.O.Objects.contents l.refs l.objects l.options l.fn.graph.graph) l.options.tags
      l.map.refspecs.items l.map.extra_refspecs.items (take l.mapping-index l.map.mappings.items) l.updates.items;
  asks : AsksFewEach (commit_at l.fn.graph.graph.objects) (IsOfMapping l.map.mappings.items) l.options.most_commits 2 l.mapping-index
      l.fn.graph.asked l.graph.asked;
  consults : Consults l.options.most_commits (Ok l.updates) l.fn.graph l.graph;
}
