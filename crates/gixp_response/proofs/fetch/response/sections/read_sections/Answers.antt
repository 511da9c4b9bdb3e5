use Rattle.std.proofs.Common.{sym, ap, ◌∙◌, inl, false}
use Rattle.std.proofs.lemmas.Result.{err_from_is_err_and}
use Rattle.gixp_response.specs.declared.fetch.response.answer.Response.{Response}
use Rattle.gixp_response.specs.Sections.{read_header, read_item}
use Rattle.gixp_response.proofs.SectionLemmas.{within-start, within-header, within-pack, within-adds, within-delimiter, within-flush, within-no_header, within-bad_header, within-bad_item, within-fails, header_is}
use Rattle.gixp_response.proofs.InterruptLemmas.{reader_refused}
use Rattle.gixp_response.proofs.fetch.response.sections.read_sections.Goals as goal

pub loop-answer-init : goal.loop-answer-init
loop-answer-init g c = (rw c.empty-answer.ensures (within-start _ _ c.reset.ensures.reading), c.reset.ensures.asks)

pub returns-in_err-next_line-clause-answers : goal.returns-in_err-next_line-clause-answers
returns-in_err-next_line-clause-answers g c =
    let p = err_from_is_err_and c.from_residual.result c.from_residual.ensures.1 in
    rw p.1 (within-fails _ _ _ _ _ _ c.in_err-next_line.field-0.0 _ c.loop-answer.invariant.0 c.in_err-next_line.ensures.reads
    c.in_err-next_line.ensures.plain p.2)

pub returns-in_err-next_line-clause-asks : goal.returns-in_err-next_line-clause-asks
returns-in_err-next_line-clause-asks g c =
    let p = err_from_is_err_and c.from_residual.result c.from_residual.ensures.1 in
    rw p.1 (reader_refused Response (λ b. g.R.ExtendedBufRead.asks c.args.reader.now b c.next_line.new.self)
    c.in_err-next_line.field-0.0 _ p.2
    (g.met.R.ExtendedBufRead.joins _ _ _ _ c.loop-answer.invariant.1 c.in_err-next_line.ensures.asks))

pub returns-in_err-section-in-true-None-clause-answers : goal.returns-in_err-section-in-true-None-clause-answers
returns-in_err-section-in-true-None-clause-answers g c =
    let k = rw c.in-true-None.is-0 at c.in_ok-next_line.ensures.reads in
    let h = rw c.in-true-None.is-1 at c.loop-answer.invariant.0 in
    let e = c.in_err-section-in-true-None in
    let p = err_from_is_err_and c.from_residual-in_err-section-in-true-None.result c.from_residual-in_err-section-in-true-None.ensures.1 in
    rw (p.1, p.2) (within-bad_header _ _ _ _ _ _ e.field-0.0 h k (ap read_header (sym c.line.ensures)) e.ensures)

pub loop-answer-preserved-in-Of : goal.loop-answer-preserved-in-Of
loop-answer-preserved-in-Of g c =
    let k = rw c.in-true-None.is-0 at c.in_ok-next_line.ensures.reads in
    let h = rw c.in-true-None.is-1 at c.loop-answer.invariant.0 in
    let found = rw c.in-Of.is at c.in_ok-section-in-true-None.ensures in
    let went = g.met.R.ExtendedBufRead.joins _ _ _ false c.loop-answer.invariant.1 c.in_ok-next_line.ensures.asks in
    (within-header _ _ _ _ _ h k (ap read_header (sym c.line.ensures) ∙ header_is _ _ found), went)

pub returns-in-Packfile-clause-answers : goal.returns-in-Packfile-clause-answers
returns-in-Packfile-clause-answers g c =
    let k = rw c.in-true-None.is-0 at c.in_ok-next_line.ensures.reads in
    let h = rw c.in-true-None.is-1 at c.loop-answer.invariant.0 in
    let found = rw c.in-Packfile.is at c.in_ok-section-in-true-None.ensures in
    rw c.with_pack.ensures (inl (within-pack _ _ _ _ h k (ap read_header (sym c.line.ensures) ∙ header_is _ _ found)))

pub loop-answer-preserved-in_ok-add_item-in-true-Some : goal.loop-answer-preserved-in_ok-add_item-in-true-Some
loop-answer-preserved-in_ok-add_item-in-true-Some g c =
    let k = rw c.in-true-Some.is-0 at c.in_ok-next_line.ensures.reads in
    let h = c.loop-answer.invariant.0 in
    let went = g.met.R.ExtendedBufRead.joins _ _ _ false c.loop-answer.invariant.1 c.in_ok-next_line.ensures.asks in
    let read = ap (read_item c.in-true-Some.section) (sym c.line-in-true-Some.ensures) in
    let within = within-adds _ _ _ _ _ _ _ (rw c.in-true-Some.is-1 at h) k read c.in_ok-add_item-in-true-Some.ensures in
    (rw c.in-true-Some.is-1 within, went)

pub returns-in_err-add_item-in-true-Some-clause-answers : goal.returns-in_err-add_item-in-true-Some-clause-answers
returns-in_err-add_item-in-true-Some-clause-answers g c =
    let k = rw c.in-true-Some.is-0 at c.in_ok-next_line.ensures.reads in
    let h = rw c.in-true-Some.is-1 at c.loop-answer.invariant.0 in
    let e = c.in_err-add_item-in-true-Some in
    let p =
    err_from_is_err_and c.from_residual-in_err-add_item-in-true-Some.result c.from_residual-in_err-add_item-in-true-Some.ensures.1 in
    rw (p.1, p.2) (within-bad_item _ _ _ _ _ _ _ _ e.field-0.0 h k
    (ap (read_item c.in-true-Some.section) (sym c.line-in-true-Some.ensures)) e.ensures)

pub returns-in-false-None-clause-answers : goal.returns-in-false-None-clause-answers
returns-in-false-None-clause-answers g c =
    let k = rw c.in-false-None.is-0 at c.in_ok-next_line.ensures.reads in
    let h = rw c.in-false-None.is-1 at c.loop-answer.invariant.0 in
    within-no_header _ _ _ _ _ h k

pub returns-then-is_flush-clause-answers : goal.returns-then-is_flush-clause-answers
returns-then-is_flush-clause-answers g c =
    let k = rw c.in-false-Some.is-0 at c.in_ok-next_line.ensures.reads in
    let h = rw c.in-false-Some.is-1 at c.loop-answer.invariant.0 in
    inl (within-flush _ _ _ _ _ h k (rw (sym c.stopped_at.ensures) (sym c.if-is_flush.ensures)))

pub loop-answer-preserved : goal.loop-answer-preserved
loop-answer-preserved g c =
    let k = rw c.in-false-Some.is-0 at c.in_ok-next_line.ensures.reads in
    let h = rw c.in-false-Some.is-1 at c.loop-answer.invariant.0 in
    let went = g.met.R.ExtendedBufRead.joins _ _ _ false c.loop-answer.invariant.1 c.in_ok-next_line.ensures.asks in (
      within-delimiter _ _ _ _ _ _ h k (rw (sym c.stopped_at.ensures) (sym c.if-is_flush.ensures)) c.reset-in-false-Some.ensures.reading,
      g.met.R.ExtendedBufRead.joins _ _ _ false went c.reset-in-false-Some.ensures.asks,
    )
