use Rattle.gixp_matching.proofs.LawLemmas.{has-local_names}
use Rattle.gixp_refspec.proofs.MatchLemmas.{between_middle, between_some}
use Rattle.gixp_matching.proofs.SortedLemmas.{increasing-local_names}
use Rattle.gixp_matching.proofs.laws.definitions_mean_what_they_say.Goals as goal

pub returns-clause-middle : goal.returns-clause-middle
returns-clause-middle c = between_middle

pub returns-clause-only : goal.returns-clause-only
returns-clause-only c = between_some

pub returns-clause-names : goal.returns-clause-names
returns-clause-names c = has-local_names

pub returns-clause-increase : goal.returns-clause-increase
returns-clause-increase c = increasing-local_names
