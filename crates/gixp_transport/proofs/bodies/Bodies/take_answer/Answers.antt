use Rattle.std.proofs.Common.{◌≡◌, refl, ap, sym, ◌∙◌, [], List}
use Rattle.gixp_packetline.specs.TransportState.{Answer}
use Rattle.gixp_transport.specs.Transport.{answer_pieces, first_answer, later_answers, answer_failure}
use Rattle.gixp_transport.proofs.BodiesLemmas.{no_bytes, answers-popped, no_answers, takes-packets, restarted}
use Rattle.gixp_transport.proofs.bodies.Bodies.take_answer.Goals as goal

pub returns-in-Some-Fail : goal.returns-in-Some-Fail
returns-in-Some-Fail c =
    let b = c.args.self.now in
    let items = rw (c.in-Some-Fail.is, c.in-Some-Fail.field-0-is) at c.pop.ensures.items in
    let popped = answers-popped _ _ _ items in
    let p = c.note_failure.new.self in
    let reader = c.new-in-Some-Fail-2.result in
    let is : p ≡ restarted b.packets reader p.failures = rw c.restart-in-Some-Fail.ensures at c.note_failure.ensures.rest in (
      takes-packets b p reader c.pop.new.self [] is c.new-in-Some-Fail-2.ensures.position
          (rw c.new-in-Some-Fail-2.ensures.inner c.new-in-Some-Fail.ensures.items)
          (no_bytes ∙ ap (λ (l : List Answer). answer_pieces (first_answer l)) (sym popped)) (ap later_answers popped),
      (ap (λ (l : List Answer). answer_failure (first_answer l)) popped, rw c.restart-in-Some-Fail.ensures at c.note_failure.ensures.rose),
    )

pub returns-in-None : goal.returns-in-None
returns-in-None c =
    let b = c.args.self.now in
    let items = rw c.in-None.is at c.pop.ensures.items in
    let cases = rw c.in-None.is at c.pop.ensures.cases in
    let none = no_answers _ _ items (sym b.later.ok.0 ∙ cases.0) in
    let p = c.restart-in-None.new.self in
    let reader = c.new-in-None-2.result in
    let is : p ≡ restarted b.packets reader p.failures = rw c.restart-in-None.ensures refl in (
      takes-packets b p reader c.pop.new.self [] is c.new-in-None-2.ensures.position
          (rw c.new-in-None-2.ensures.inner c.new-in-None.ensures.items)
          (no_bytes ∙ ap (λ (l : List Answer). answer_pieces (first_answer l)) (sym none.0)) (ap later_answers none.0 ∙ sym none.1),
      (ap (λ (l : List Answer). answer_failure (first_answer l)) none.0, rw c.restart-in-None.ensures refl),
    )
