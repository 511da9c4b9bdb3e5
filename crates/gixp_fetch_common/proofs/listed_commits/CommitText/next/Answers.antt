-- One line more.
use Rattle.std.proofs.Common.{◌∙◌, refl, arith}
use Rattle.gixp_fetch_common.proofs.ListedLemmas.{ReadsOne, passed_none, passed_more, offered, commit_there}
use Rattle.gixp_fetch_common.proofs.listed_commits.CommitText.next.Goals as goal

pub lines-init : goal.lines-init
lines-init g c = record { left = omega arith; refusal = refl; passed = passed_none g.R.Read.remaining c.args.self.now }

pub lines-preserved : goal.lines-preserved
lines-preserved g c =
    let reported = rw c.in-Ok-Some.field-0-is at c.in-Ok-Some.ensures in
    let one : ReadsOne g.R.Read.remaining c.lines.self c.read_commit.new.self c.offer.new.self c.in-Ok-Some.id = record {
      read = reported.read;
      common = c.read_commit.ensures.common;
      awaited = c.read_commit.ensures.awaited;
      shares = c.offer.ensures.some (commit_there _ _ _ _ _ reported.read);
      unknown = c.offer.ensures.unknown;
      text = c.offer.ensures.text;
      left = omega arith;
    } in
    record {
      left = omega arith;
      refusal = c.offer.ensures.refusal ∙ (reported.refusal ∙ c.lines.invariant.refusal);
      passed = passed_more g.R.Read.remaining c.args.self.now c.lines.self c.read_commit.new.self c.offer.new.self c.in-Ok-Some.id
          c.lines.invariant.passed one c.in-Ok-false.ensures.whole (c.in-Ok-false.ensures.common c.in-Ok-false.field-0-test);
    }

pub returns-in-Ok-true-clause-offers : goal.returns-in-Ok-true-clause-offers
returns-in-Ok-true-clause-offers g c =
    let reported = rw c.in-Ok-Some.field-0-is at c.in-Ok-Some.ensures in
    let one : ReadsOne g.R.Read.remaining c.lines.self c.read_commit.new.self c.offer.new.self c.in-Ok-Some.id = record {
      read = reported.read;
      common = c.read_commit.ensures.common;
      awaited = c.read_commit.ensures.awaited;
      shares = c.offer.ensures.some (commit_there _ _ _ _ _ reported.read);
      unknown = c.offer.ensures.unknown;
      text = c.offer.ensures.text;
      left = omega arith;
    } in
    offered g.R.Read.remaining c.args.self.now c.lines.self c.read_commit.new.self c.offer.new.self c.in-Ok-Some.id
    c.lines.invariant.passed one c.in-Ok-true.ensures.whole (c.in-Ok-true.ensures.uncommon c.in-Ok-true.field-0-test)
    (c.in-Ok-true.ensures.awaits c.in-Ok-true.field-0-test)
