use Rattle.gixp_refspec.specs.RefSpec.{owned_value_of}
use Rattle.gixp_client.proofs.CloneLemmas.{same_values}
use Rattle.gixp_client.proofs.request.copied_specs.Goals as goal

pub returns : goal.returns
returns c = same_values owned_value_of _ _ c.in_ok-copy.ensures.cases.0
