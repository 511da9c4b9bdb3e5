use Rattle.std.proofs.Common.{sym, ap, ◌∙◌, false}
use Rattle.std.proofs.lemmas.Result.{err_from_is_err_and}
use Rattle.gixp_response.specs.declared.fetch.response.answer.Response.{Response}
use Rattle.gixp_response.specs.Beginnings.{line_item}
use Rattle.gixp_response.proofs.BeginningLemmas.{amid-start, amid-stop, amid-stops, amid-end, amid-fails, amid-pack, amid-line, amid-response_line, amid-nak, amid-memory}
use Rattle.gixp_response.proofs.InterruptLemmas.{peeked_asks, ended_asks, reader_refused}
use Rattle.gixp_response.proofs.fetch.response.beginnings.read_beginning.Goals as goal

pub loop-answer-init : goal.loop-answer-init
loop-answer-init g c = (
  rw c.empty-answer.ensures (amid-start _ _ _ _ c.reset.ensures.reading),
  rw c.empty-answer.ensures c.new-repeats.ensures,
  c.reset.ensures.asks,
)

pub returns-then-follows_stop-clause-answers : goal.returns-then-follows_stop-clause-answers
returns-then-follows_stop-clause-answers g c =
    let k = rw c.in-Ok-false.field-0-test at c.in-Ok-false.ensures.peeks in
    let h = rw c.if-follows_stop.true at c.loop-answer.invariant.0 in
    rw c.finished.ensures (amid-stops _ c.requires _ _ _ _ _ _ h k)

pub loop-answer-preserved-in-Ok-false : goal.loop-answer-preserved-in-Ok-false
loop-answer-preserved-in-Ok-false g c =
    let k = rw c.in-Ok-false.field-0-test at c.in-Ok-false.ensures.peeks in
    let h = rw c.if-follows_stop.false at c.loop-answer.invariant.0 in
    let went = g.met.R.ExtendedBufRead.joins _ _ _ false c.loop-answer.invariant.2 c.in-Ok-false.ensures.asks in (
      amid-stop _ _ _ _ _ _ _ _ h k c.reset-in-Ok-false.ensures.reading,
      c.loop-answer.invariant.1,
      g.met.R.ExtendedBufRead.joins _ _ _ false went c.reset-in-Ok-false.ensures.asks,
    )

pub returns-then-ends_answer-clause-answers : goal.returns-then-ends_answer-clause-answers
returns-then-ends_answer-clause-answers g c =
    rw c.finished-then-ends_answer.ensures (amid-end _ c.requires _ _ _ _ _ _ _ c.in-Err.e c.loop-answer.invariant.0 c.in-Err.ensures.peeks
    c.if-ends_answer.ensures)

pub returns-in-Err-clause-answers : goal.returns-in-Err-clause-answers
returns-in-Err-clause-answers g c =
    amid-fails _ _ _ _ _ _ _ _ _ c.in-Err.e _ c.loop-answer.invariant.0 c.in-Err.ensures.peeks c.if-ends_answer.ensures
    c.in-Err.ensures.plain c.from.ensures

pub returns-in-None-clause-answers : goal.returns-in-None-clause-answers
returns-in-None-clause-answers g c =
    let k = rw c.in-Ok-true.field-0-test at c.in-Ok-true.ensures.peeks in
    rw (c.with_pack.ensures, c.finished-in-None.ensures) (amid-pack _ _ _ _ _ _ _ _ c.loop-answer.invariant.0 k
    (ap line_item (sym c.line.ensures) ∙ sym c.in-None.ensures))

pub returns-in_err-keep-clause-answers : goal.returns-in_err-keep-clause-answers
returns-in_err-keep-clause-answers g c =
    let k = rw c.in-Ok-true.field-0-test at c.in-Ok-true.ensures.peeks in
    let t = amid-line _ _ _ _ _ c.in-Some.response_line _ _ _ _ _ c.loop-answer.invariant.0 k
    (c.in-Some.ensures ∙ ap line_item c.line.ensures) c.next_line.ensures.reads in
    let p = err_from_is_err_and c.from_residual.result c.from_residual.ensures.1 in rw (p.1, p.2) (amid-memory _ _ _ c.in-Some.response_line _ _ _ t)

pub returns-then-ends_by_nak-clause-answers : goal.returns-then-ends_by_nak-clause-answers
returns-then-ends_by_nak-clause-answers g c =
    let k = rw c.in-Ok-true.field-0-test at c.in-Ok-true.ensures.peeks in
    let t = amid-line _ _ _ _ _ c.in-Some.response_line _ _ _ _ _ c.loop-answer.invariant.0 k
    (c.in-Some.ensures ∙ ap line_item c.line.ensures) c.next_line.ensures.reads in
    rw c.finished-then-ends_by_nak.ensures (amid-nak _ c.requires _ _ _ _ _ _ c.in-Some.response_line _ _ _ c.loop-answer.invariant.0 t
    c.in_ok-keep.ensures.ok c.ready_by-received_ready.ensures c.if-ends_by_nak.ensures)

pub loop-answer-preserved : goal.loop-answer-preserved
loop-answer-preserved g c =
    let k = rw c.in-Ok-true.field-0-test at c.in-Ok-true.ensures.peeks in
    let t = amid-line _ _ _ _ _ c.in-Some.response_line _ _ _ _ _ c.loop-answer.invariant.0 k
    (c.in-Some.ensures ∙ ap line_item c.line.ensures) c.next_line.ensures.reads in
    let shown = g.met.R.ExtendedBufRead.joins _ _ _ false c.loop-answer.invariant.2 c.in-Ok-true.ensures.asks in
    let went = g.met.R.ExtendedBufRead.joins _ _ _ false shown
    (peeked_asks (λ b. g.R.ExtendedBufRead.asks c.peek_line.new.self b c.next_line.new.self) _ _ _ k.peeked
    c.next_line.ensures.reads c.next_line.ensures.asks) in (
      amid-response_line _ _ _ _ _ _ _ c.in-Some.response_line _ _ _ c.loop-answer.invariant.0 t c.in_ok-keep.ensures.ok c.ready_by-received_ready.ensures
          c.if-ends_by_nak.ensures,
      c.in_ok-keep.ensures.noted,
      went,
    )

pub returns-in-Err-clause-asks : goal.returns-in-Err-clause-asks
returns-in-Err-clause-asks g c =
    reader_refused Response (λ b. g.R.ExtendedBufRead.asks c.args.reader.now b c.peek_line.new.self) c.in-Err.e _ c.from.ensures
    (g.met.R.ExtendedBufRead.joins _ _ _ _ c.loop-answer.invariant.2 c.in-Err.ensures.asks)

pub returns-then-ends_answer-clause-asks : goal.returns-then-ends_answer-clause-asks
returns-then-ends_answer-clause-asks g c =
    ended_asks (λ b. g.R.ExtendedBufRead.asks c.args.reader.now b c.peek_line.new.self) c.in-Err.e _ (sym c.if-ends_answer.ensures)
    (g.met.R.ExtendedBufRead.joins _ _ _ _ c.loop-answer.invariant.2 c.in-Err.ensures.asks)

pub returns-then-ends_by_nak-clause-asks : goal.returns-then-ends_by_nak-clause-asks
returns-then-ends_by_nak-clause-asks g c =
    let k = rw c.in-Ok-true.field-0-test at c.in-Ok-true.ensures.peeks in
    let shown = g.met.R.ExtendedBufRead.joins _ _ _ false c.loop-answer.invariant.2 c.in-Ok-true.ensures.asks in
    g.met.R.ExtendedBufRead.joins _ _ _ false shown
    (peeked_asks (λ b. g.R.ExtendedBufRead.asks c.peek_line.new.self b c.next_line.new.self) _ _ _ k.peeked
    c.next_line.ensures.reads c.next_line.ensures.asks)

pub returns-in_err-keep-clause-asks : goal.returns-in_err-keep-clause-asks
returns-in_err-keep-clause-asks g c =
    let k = rw c.in-Ok-true.field-0-test at c.in-Ok-true.ensures.peeks in
    let p = err_from_is_err_and c.from_residual.result c.from_residual.ensures.1 in
    let shown = g.met.R.ExtendedBufRead.joins _ _ _ false c.loop-answer.invariant.2 c.in-Ok-true.ensures.asks in
    rw (p.1, p.2) (g.met.R.ExtendedBufRead.joins _ _ _ false shown
    (peeked_asks (λ b. g.R.ExtendedBufRead.asks c.peek_line.new.self b c.next_line.new.self) _ _ _ k.peeked
    c.next_line.ensures.reads c.next_line.ensures.asks))
