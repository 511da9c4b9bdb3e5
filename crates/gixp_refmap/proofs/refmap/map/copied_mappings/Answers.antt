use Rattle.gixp_refmap.specs.Values.{mapping_value}
use Rattle.gixp_refmap.proofs.CloneLemmas.{same_values}
use Rattle.gixp_refmap.proofs.refmap.map.copied_mappings.Goals as goal

pub returns : goal.returns
returns c = same_values mapping_value _ _ c.in_ok-copy.ensures.cases.0
