use Rattle.std.proofs.Common.{inl, ap, ◌∙◌, ◌++◌}
use Rattle.gixp_negotiate.specs.Marking.{listed}
use Rattle.gixp_negotiate.specs.Stopped.{learning_stopped}
use Rattle.gixp_negotiate.proofs.LookLemmas.{telling_same}
use Rattle.gixp_negotiate.proofs.negotiate.mark.negotiate.Goals as goal

pub returns-clause-failed : goal.returns-clause-failed
returns-clause-failed g c = inl (c.in-Err-mark_and_tell.e, c.from-in-Err-mark_and_tell.ensures, c.in-Err-mark_and_tell.ensures.failed)

pub returns-clause-stops : goal.returns-clause-stops
returns-clause-stops g c =
    learning_stopped c.in-Ok.ensures.listed c.in_ok-list_alternates.ensures.each c.in-Err-mark_and_tell.e
    c.from-in-Err-mark_and_tell.ensures
    (telling_same _ _ _ _ _ _ _ _ _ _ _ _ (c.deref.ensures.value
    ∙ (c.in_ok-list_alternates.ensures.listed ∙ ap (λ l. l
    ++ listed g.R.RefStore.targets c.args.context.now.alternates) c.in-Ok.ensures.peeled)) c.in-Err-mark_and_tell.ensures.stops)
