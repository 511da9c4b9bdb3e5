use Rattle.std.proofs.Common.{refl}
use Rattle.gixp_negotiators.specs.Marks.{COMMON}
use Rattle.gixp_negotiators.specs.CommitMarks.{Claims}
use Rattle.gixp_negotiators.proofs.FitLemmas.{timed_grown, timed_fits, settled}
use Rattle.gixp_negotiators.proofs.LookedLemmas.{looked_ok, looked_from}
use Rattle.gixp_negotiators.proofs.consecutive.Consecutive.make_common.Goals as goal

pub returns-in_default-clause-steps : goal.returns-in_default-clause-steps
returns-in_default-clause-steps g c = record {
  keeps = timed_grown _ _ _ _ c.claim.ensures.looks.grows (c.claim.ensures.sees refl)
      (rw c.in_default.is at c.in_ok-flags.ensures.kept) (c.claim.ensures.pops refl);
  lists = c.claim.ensures.lists refl;
  pops = c.claim.ensures.pops refl;
}

pub returns-clause-steps : goal.returns-clause-steps
returns-clause-steps g c =
    let k : Claims COMMON c.args.graph.now.graph c.claim.new.graph.graph c.args.id.now c.in-Some.flags =
    rw c.in-Some.is at c.in_ok-flags.ensures.claimed in
    record {
      keeps = rw c.discount.ensures.queue (timed_fits _ _ _ _ _ c.claim.ensures.looks.grows
          (settled _ _ _ _ _ c.args.id.now c.in-Some.flags k c.claim.ensures.looks.grows
          (c.claim.ensures.sees refl) (c.claim.ensures.pops refl) c.claim.ensures.marks_common_only c.discount.ensures.waits
          c.discount.ensures.unseen c.discount.ensures.taken));
      lists = c.claim.ensures.lists refl;
      pops = c.claim.ensures.pops refl;
    }

pub returns-in_default-clause-looks : goal.returns-in_default-clause-looks
returns-in_default-clause-looks g c = looked_ok c.in_ok-flags.ensures.looks

pub returns-clause-looks : goal.returns-clause-looks
returns-clause-looks g c = looked_ok c.in_ok-flags.ensures.looks

pub returns-in_err-flags-clause-looks : goal.returns-in_err-flags-clause-looks
returns-in_err-flags-clause-looks g c = looked_from _ c.from_residual.ensures.1 c.in_err-flags.ensures.looks
