use Rattle.std.proofs.Common.{ap, refl, ◌∙◌}
use Rattle.std.specs.BTreeSet.{contains}
use Rattle.gixp_hash.specs.ObjectId.{id_cmp}
use Rattle.gixp_graph.specs.GraphData.{is_marked}
use Rattle.gixp_reachable.proofs.ReachedLemmas.{empty_unmarked, hides, marked_by}
use Rattle.gixp_reachable.proofs.reached.Reached.new.Goals as goal

pub returns : goal.returns
returns g c = (
  _,
  hides (λ q. contains id_cmp c.in_ok-set_of.field-0 q) (λ q. is_marked c.mark_complete.new.self.graph.held q)
      (λ q. is_marked c.new-graph.result.graph.held q) c.args.doubted.now _ c.in_ok-set_of.ensures
      (λ q. marked_by _ _ _ _ _ _ _ q (ap (λ x. x.objects) c.new-graph.ensures.empty ∙ ap g.F.Find.contents c.new.ensures.objects)
      c.in_ok-oldest.ensures (c.in_ok-mark_complete.ensures.complete q))
      (empty_unmarked _ (ap (λ x. x.held) c.new-graph.ensures.empty)),
  refl,
)
