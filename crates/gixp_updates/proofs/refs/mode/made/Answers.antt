use Rattle.gixp_updates.proofs.ModeLemmas.{consults_as, consults_err}
use Rattle.gixp_updates.proofs.refs.mode.made.Goals as goal

pub returns-then-is_misplaced-clause-consults : goal.returns-then-is_misplaced-clause-consults
returns-then-is_misplaced-clause-consults g c limit = consults_as limit c.in-Ok.is_commit _ _ _ (c.in-Ok.ensures.consults limit)

pub returns-else-is_misplaced-clause-consults : goal.returns-else-is_misplaced-clause-consults
returns-else-is_misplaced-clause-consults g c limit = consults_as limit c.in-Ok.is_commit _ _ _ (c.in-Ok.ensures.consults limit)

pub returns-in-Err-clause-consults : goal.returns-in-Err-clause-consults
returns-in-Err-clause-consults g c limit = consults_err limit c.in-Err.e _ _ (c.in-Err.ensures.consults limit)
