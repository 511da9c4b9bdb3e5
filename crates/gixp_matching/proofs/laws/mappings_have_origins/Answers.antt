use Rattle.gixp_matching.proofs.OriginLemmas.{have_origins}
use Rattle.gixp_matching.proofs.laws.mappings_have_origins.Goals as goal

pub returns : goal.returns
returns c = have_origins
