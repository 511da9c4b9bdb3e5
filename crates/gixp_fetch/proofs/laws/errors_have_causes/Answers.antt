use Rattle.gixp_fetch.proofs.CauseLemmas.{caused}
use Rattle.gixp_fetch.proofs.laws.errors_have_causes.Goals as goal

pub returns : goal.returns
returns g c = λ plain call old e new progress h. caused _ call old progress e new h
