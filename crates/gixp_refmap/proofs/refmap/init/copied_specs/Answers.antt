use Rattle.gixp_refspec.specs.RefSpec.{owned_value_of}
use Rattle.gixp_refmap.proofs.CloneLemmas.{same_values}
use Rattle.gixp_refmap.proofs.refmap.init.copied_specs.Goals as goal

pub returns : goal.returns
returns c = same_values owned_value_of _ _ c.in_ok-copy.ensures.cases.0
