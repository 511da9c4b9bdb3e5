use Rattle.std.proofs.Common.{◌∙◌, List, ap, map, vec_items}
use Rattle.gixp_transport.specs.declared.bodies.Body.{Body}
use Rattle.gixp_transport.specs.Bodies.{answer_of}
use Rattle.gixp_engine.specs.ListLosses.{losses_of}
use Rattle.gixp_engine.proofs.AloneLemmas.{session-by}
use Rattle.std.specs.FinMap as finite
use Rattle.gixp_hash.specs.declared.object_id.ObjectId.{ObjectId}
use Rattle.gixp_engine.specs.Handed.{objects_held}
use Rattle.gixp_engine.specs.NextStep.{stepped}
use Rattle.gixp_engine.proofs.HandedLemmas.{start-within, opens-over}
use Rattle.gixp_engine.proofs.step.next_step.Goals as goal

pub step_of-requires-clause-within : goal.step_of-requires-clause-within
step_of-requires-clause-within c = start-within c.args.bytes.now c.args.ends.now _ c.in-Ok.ensures.1

pub returns : goal.returns
returns c = stepped c.in-Ok.ensures.0 (map vec_items c.sent.result.now) c.run-ended.result c.in-Ok.ensures.1
    (record {
      here = c.new-4.result;
      transport = c.in-Ok-new.transport;
      new = _;
      holds = c.new-4.ensures.objects ∙ c.in-Ok-objects_of.ensures
          ∙ ap (λ (ids : List ObjectId). objects_held finite.empty ids) c.deref.ensures.value;
      opens = opens-over _ c.in-Ok.answers.items c.in-Ok-new.transport _ _ c.in-Ok.ensures.2 (c.new-url.ensures ∙ c.new.ensures.items)
          c.new-2.ensures.items c.in-Ok-new.ensures;
      session = session-by _ _ _ _ _ _ _ _ _ _ (c.losses_of-losses.ensures
          ∙ ap (λ (bodies : List Body). losses_of (map answer_of bodies)) c.deref-2.ensures.value ∙ ap losses_of c.in-Ok.ensures.2)
          c.run-ended.ensures;
      requests = c.sent.ensures;
    })
    c.step_of.ensures
