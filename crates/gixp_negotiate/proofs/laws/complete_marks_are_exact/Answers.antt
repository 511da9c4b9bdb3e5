use Rattle.gixp_negotiate.proofs.MarkLemmas.{marks_are_exact}
use Rattle.gixp_negotiate.proofs.laws.complete_marks_are_exact.Goals as goal

pub returns : goal.returns
returns g c = marks_are_exact g.N.Negotiator.calls
