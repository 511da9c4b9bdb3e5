use Rattle.gixp_progress.proofs.RunLemmas.{run_is_first, run_is_only}
use Rattle.gixp_progress.proofs.DigitLemmas.{number_by_places}
use Rattle.gixp_progress.proofs.laws.runs_are_longest.Goals as goal

pub returns-clause-first : goal.returns-clause-first
returns-clause-first c = run_is_first

pub returns-clause-only : goal.returns-clause-only
returns-clause-only c = run_is_only

pub returns-clause-places : goal.returns-clause-places
returns-clause-places c = number_by_places
