-- Nothing is read or common.
use Rattle.gixp_fetch_common.proofs.KnownLemmas.{unknown_first}
use Rattle.gixp_fetch_common.proofs.listed_commits.ListedCommits.new.Goals as goal

pub returns-clause-unknown : goal.returns-clause-unknown
returns-clause-unknown g c = unknown_first c.new-2.result c.new-2.ensures.read c.new-2.ensures.common
