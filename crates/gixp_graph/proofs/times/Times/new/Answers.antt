use Rattle.gixp_graph.proofs.TimesLemmas.{no_entries}
use Rattle.gixp_graph.proofs.times.Times.new.Goals as goal

pub returns : goal.returns
returns c = no_entries _ _ c.new-2.ensures.empty
