-- Each call has the meaning that its clauses state. Nothing is recorded.
use Rattle.std.proofs.Common.{ap, refl, inl, rules}
use Rattle.gixp_graph.proofs.shared.SharedObjects.TheImpl.Goals as goal

pub commit-tells : goal.commit-tells
commit-tells g c = record {
  found = c.ensures.found;
  contents = ap g.F.Find.contents c.ensures.objects;
  asked = inl refl;
  unrefused = search rules;
  refused = search rules;
  failures = c.ensures.failures;
  failed = c.ensures.counted;
}
