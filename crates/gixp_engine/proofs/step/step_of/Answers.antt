use Rattle.std.proofs.Common.{◌∙◌, refl, vec_items}
use Rattle.std.proofs.lemmas.List.{length-map}
use Rattle.gixp_engine.specs.NextStep.{asks}
use Rattle.gixp_engine.proofs.HandedLemmas.{request-at}
use Rattle.gixp_engine.proofs.step.step_of.Goals as goal

pub returns-in_default : goal.returns-in_default
returns-in_default c = c.step_unasked.ensures _ (length-map c.args.sent.now vec_items)

pub returns-in-Ok : goal.returns-in-Ok
returns-in-Ok c =
    let read = c.in-Some.ensures.lookup in
    asks c.in-Ok.request (request-at c.args.sent.now _ c.in-Some.request.now c.in-Ok.request read.3.0 read.1
    (c.in-Ok.ensures.items ∙ c.deref.ensures.value)) refl
