use Rattle.gixp_negotiators.proofs.LookLemmas.{none_some}
use Rattle.gixp_negotiators.specs.Marks.{POPPED, has_all}
use Rattle.std.proofs.Common.{ap}
use Rattle.std.proofs.Common.{◌∙◌, sym}
use Rattle.gixp_negotiators.specs.CommitMarks.{IsFoundWith}
use Rattle.gixp_negotiators.proofs.GrowLemmas.{has_part}
use Rattle.gixp_negotiators.proofs.StepLemmas.{claims}
use Rattle.gixp_negotiators.proofs.LookedLemmas.{looked_held, looked_on, looked_ok, looked_from}
use Rattle.gixp_negotiators.proofs.marks.claim.Goals as goal

pub returns-clause-claimed : goal.returns-clause-claimed
returns-clause-claimed g c =
    let f : IsFoundWith c.look.new.graph.graph c.args.id.now c.in-Some.flags = rw c.in-Some.is at c.in_ok-time.ensures.found in
    claims c.args.mark.0 c.args.graph.now.graph c.look.new.graph.graph c.add.new.graph.graph c.args.id.now c.in-Some.flags
    c.look.ensures.looks.grows c.add.ensures.grows f c.look.ensures.marks (sym c.has.ensures ∙ c.if-has.false)
    (has_part c.args.marks.0 c.args.mark.0 c.add.new.graph.graph.held c.args.id.now c.requires.first (c.add.ensures.marked f.held))

pub returns-then-has-clause-spent : goal.returns-then-has-clause-spent
returns-then-has-clause-spent g c e =
    let f : IsFoundWith c.look.new.graph.graph c.args.id.now c.in-Some.flags = rw c.in-Some.is at c.in_ok-time.ensures.found in
    λ s. c.look.ensures.pops c.args.id.now (f.marks POPPED ∙ ap (λ m. has_all m c.in-Some.flags.0) (sym e) ∙ sym c.has.ensures ∙
    c.if-has.true)

pub returns-in_default-clause-spent : goal.returns-in_default-clause-spent
returns-in_default-clause-spent g c e =
    λ s. absurd (none_some c.args.graph.now.graph c.args.id.now (rw c.in_default.is at c.in_ok-time.ensures.none) s)

pub returns-clause-looks : goal.returns-clause-looks
returns-clause-looks g c = looked_ok (looked_on _ c.in_ok-time.ensures.looks
    (looked_held c.look.new.graph c.add.new.graph c.add.ensures.grows c.add.ensures.failures c.add.ensures.refusals))

pub returns-then-has-clause-looks : goal.returns-then-has-clause-looks
returns-then-has-clause-looks g c = looked_ok c.in_ok-time.ensures.looks

pub returns-in_default-clause-looks : goal.returns-in_default-clause-looks
returns-in_default-clause-looks g c = looked_ok c.in_ok-time.ensures.looks

pub returns-in_err-time-clause-looks : goal.returns-in_err-time-clause-looks
returns-in_err-time-clause-looks g c = looked_from _ c.from_residual.ensures.1 c.in_err-time.ensures.looks
