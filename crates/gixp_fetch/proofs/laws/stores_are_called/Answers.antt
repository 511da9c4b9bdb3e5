use Rattle.gixp_fetch.proofs.KeptLemmas.{keeps_store}
use Rattle.gixp_fetch.proofs.laws.stores_are_called.Goals as goal

pub returns : goal.returns
returns g c = λ plain call old result new progress h. keeps_store _ call old new progress result h
