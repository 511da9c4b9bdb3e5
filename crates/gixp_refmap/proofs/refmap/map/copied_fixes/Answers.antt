use Rattle.gixp_matching.specs.Validate.{removed_of}
use Rattle.gixp_refmap.proofs.CloneLemmas.{same_values}
use Rattle.gixp_refmap.proofs.refmap.map.copied_fixes.Goals as goal

pub returns : goal.returns
returns c = same_values removed_of _ _ c.in_ok-copy.ensures.cases.0
