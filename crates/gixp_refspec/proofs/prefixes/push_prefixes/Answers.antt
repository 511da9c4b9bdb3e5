use Rattle.gixp_refspec.specs.Matching.{candidates}
use Rattle.gixp_refspec.proofs.PrefixLemmas.{adds_short}
use Rattle.gixp_refspec.proofs.prefixes.push_prefixes.Goals as goal

pub returns-in-Short : goal.returns-in-Short
unfolding candidates
returns-in-Short c = adds_short _ c.in-Short.name _ _ _ c.in-Short.ensures c.push_made.ensures
