use Rattle.gixp_memory.proofs.TextLemmas.{digit_more, digit_none, digits_all}
use Rattle.gixp_memory.proofs.texts.digits.Goals as goal

pub digits-preserved : goal.digits-preserved
digits-preserved c = record {
  read =
      digit_more c.args.word.now c.digits.number c.in-Some.more c.digits.digit-index c.digits-test.true c.in-Some.ensures.value
      c.digits.invariant.read;
  fits = c.in-Some.ensures.fits;
}

pub returns-in-None-clause-value : goal.returns-in-None-clause-value
returns-in-None-clause-value c =
    digit_none c.args.word.now c.digits.number c.digits.digit-index c.digits-test.true c.in-None.ensures.value c.digits.invariant.read

pub returns-clause-value : goal.returns-clause-value
returns-clause-value c = digits_all c.args.word.now c.digits.number c.digits.digit-index c.digits-test.false c.digits.invariant.read
