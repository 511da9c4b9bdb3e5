-- The number so far, with one more digit.
use Rattle.std.proofs.Common.{get_or}
use Rattle.gixp_progress.proofs.NumberLemmas.{digit_more, still_fits, too_large, all_read}
use Rattle.gixp_progress.proofs.numbers.fit_number.Goals as goal

pub digits-preserved : goal.digits-preserved
digits-preserved c = (
  digit_more c.args.run.now c.digits.number c.in-Some.more c.digits.digit-index _ c.digits-test.true c.in-Some.ensures c.digits.invariant.0,
  still_fits c.digits.number (get_or c.args.run.now c.digits.digit-index 0) c.in-Some.more c.in-Some.ensures,
)

pub returns-in-None : goal.returns-in-None
returns-in-None c = too_large c.args.run.now c.digits.number c.digits.digit-index c.digits-test.true c.in-None.ensures c.digits.invariant.0

pub returns : goal.returns
returns c = all_read c.args.run.now c.digits.number c.digits.digit-index c.digits-test.false c.digits.invariant.1 c.digits.invariant.0
