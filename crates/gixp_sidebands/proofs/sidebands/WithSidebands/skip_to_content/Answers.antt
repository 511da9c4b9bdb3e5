use Rattle.std.proofs.Common.{◌≡◌, ap, sym, subst, ◌∙◌, refl, inl, Bool, Some, None}
use Rattle.std.proofs.lemmas.Result.{err_from_is_err_and}
use Rattle.gixp_sidebands.specs.declared.sidebands.band.Band.TheVariants.{Empty, Text}
use Rattle.gixp_sidebands.specs.Bands.{band_of, IsPassed}
use Rattle.gixp_sidebands.proofs.BandLemmas.{skipping-init, seen_by, fails_above, shows_content, skips_line}
use Rattle.gixp_sidebands.proofs.ContentLemmas.{shows_first}
use Rattle.gixp_sidebands.proofs.AskLemmas.{asked-leave, asked-shown, asked-more, asked-empty, asked-stop, asked-tell, asked-below}
use Rattle.gixp_sidebands.proofs.TellLemmas.{reported-init, reported-fails, reported-tell, reported-text, reported-empty, reported-known}
use Rattle.gixp_sidebands.proofs.sidebands.WithSidebands.skip_to_content.Goals as goal

pub packets-init : goal.packets-init
packets-init g c =
    let reading = g.T.ExtendedBufRead.reading in
    let s = c.args.self.now in
    let n = c.leave.new.self in
    record {
      skips = skipping-init _ _ _ (reading s.front.at.now) (reading n.at.now) c.leave.ensures.same c.leave.ensures.begun
          (λ e. ap reading (c.leave.ensures.fresh e));
      reported = reported-init g.P.BandText.receives g.P.BandText.spares g.I.Interrupt.polls s.front.place (reading s.front.at.now)
          (reading n.at.now) _ _ refl s.front.held c.leave.ensures.begun (λ e. ap reading (c.leave.ensures.fresh e));
      same = c.leave.ensures.same;
      interrupt = refl;
      fault = refl;
      place = c.leave.ensures.place;
      asks = asked-leave g.I.Interrupt.polls s.front.place (reading s.front.at.now) (reading n.at.now) _ s.front.held c.leave.ensures.begun
          (λ e. ap reading (c.leave.ensures.fresh e));
    }

pub returns-in_err-peek-clause-peeks : goal.returns-in_err-peek-clause-peeks
returns-in_err-peek-clause-peeks g c =
    let reading = g.T.ExtendedBufRead.reading in
    let n = c.peek.new.self in
    let e = seen_by n.place None _ n.at.ghost_name (reading n.at.now) c.peek.ensures.place refl c.peek.ensures.same in
    let p = err_from_is_err_and c.from_residual.result c.from_residual.ensures.1 in
    rw (e, p.1, p.2) (fails_above _ _ _ _ _ c.packets.invariant.skips c.in_err-peek.ensures.peeks)

pub returns-in_err-peek-clause-reported : goal.returns-in_err-peek-clause-reported
returns-in_err-peek-clause-reported g c = let p = err_from_is_err_and c.from_residual.result c.from_residual.ensures.1 in
    rw (p.1, p.2) (reported-fails g.P.BandText.receives g.P.BandText.spares g.I.Interrupt.polls _ _ _ _ _ _ _ c.packets.invariant.skips.failures
    c.packets.invariant.reported c.in_err-peek.ensures.peeks c.in_err-peek.ensures.plain)

pub returns-in_err-peek-clause-asks : goal.returns-in_err-peek-clause-asks
returns-in_err-peek-clause-asks g c = let p = err_from_is_err_and c.from_residual.result c.from_residual.ensures.1 in
    rw (p.1, p.2) (
      asked-below g.I.Interrupt.polls Bool _ _ _ _ _ _ c.in_err-peek.field-0.0 c.packets.invariant.asks
          c.in_err-peek.ensures.peeks c.in_err-peek.ensures.plain,
      c.packets.invariant.interrupt,
    )

pub returns-in-Content-clause-peeks : goal.returns-in-Content-clause-peeks
returns-in-Content-clause-peeks g c =
    let reading = g.T.ExtendedBufRead.reading in
    let n = c.open.new.self in
    let h = rw c.if-not-branch.false at c.in_ok-peek.ensures.peeks in
    let k = ap band_of (sym c.line.ensures) ∙ sym c.in-Content.ensures in
    let s = shows_content _ _ _ _ c.packets.invariant.skips h k in
    let e = seen_by n.place (Some 0) _ n.at.ghost_name (reading n.at.now) c.open.ensures.place refl
    (c.open.ensures.same ∙ c.peek.ensures.same) in
    rw (e, c.open.ensures.now) s

pub returns-in_err-tell-in-Text-clause-reported : goal.returns-in_err-tell-in-Text-clause-reported
returns-in_err-tell-in-Text-clause-reported g c =
    let h = rw c.if-not-branch.false at c.in_ok-peek.ensures.peeks in
    let k = ap band_of (sym c.line.ensures) ∙ sym c.in-Text.ensures in
    let p = err_from_is_err_and c.from_residual-in_err-tell-in-Text.result c.from_residual-in_err-tell-in-Text.ensures.1 in
    rw (p.1, p.2) (reported-tell g.P.BandText.receives g.P.BandText.spares g.I.Interrupt.polls
    (Unit {0}) _ _ _ _ _ _ _ _ _ c.in_err-tell-in-Text.field-0.0 c.packets.invariant.reported h k c.in_err-tell-in-Text.ensures.reports)

pub returns-in_err-tell-in-Text-clause-asks : goal.returns-in_err-tell-in-Text-clause-asks
returns-in_err-tell-in-Text-clause-asks g c =
    let h = rw c.if-not-branch.false at c.in_ok-peek.ensures.peeks in
    let k = ap band_of (sym c.line.ensures) ∙ sym c.in-Text.ensures in
    let p = err_from_is_err_and c.from_residual-in_err-tell-in-Text.result c.from_residual-in_err-tell-in-Text.ensures.1 in
    rw (p.1, p.2) (
      asked-tell g.I.Interrupt.polls g.P.BandText.receives g.P.BandText.spares (Unit {0}) Bool _ _ _ _ _ _ _ _ _
          c.in-Text.is_error c.in_err-tell-in-Text.field-0.0 c.packets.invariant.asks h k c.in_err-tell-in-Text.ensures.reports,
      c.in_err-tell-in-Text.ensures.interrupt ∙ c.packets.invariant.interrupt,
    )

pub returns-in-Content-clause-asks : goal.returns-in-Content-clause-asks
returns-in-Content-clause-asks g c =
    let h = rw c.if-not-branch.false at c.in_ok-peek.ensures.peeks in
    rw c.open.ensures.now (inl (asked-shown g.I.Interrupt.polls _ _ _ _ _ c.packets.invariant.asks h), c.packets.invariant.interrupt)

pub returns-then-not-branch-clause-asks : goal.returns-then-not-branch-clause-asks
returns-then-not-branch-clause-asks g c =
    let h = rw c.if-not-branch.true at c.in_ok-peek.ensures.peeks in
    (inl (asked-stop g.I.Interrupt.polls _ _ _ _ _ c.packets.invariant.asks h), c.packets.invariant.interrupt)

pub packets-preserved-in-Empty : goal.packets-preserved-in-Empty
packets-preserved-in-Empty g c =
    let h = rw c.if-not-branch.false at c.in_ok-peek.ensures.peeks in
    let k : band_of (g.T.ExtendedBufRead.reading c.peek.new.self.at.now).line ≡ Empty =
    ap band_of (sym c.line.ensures) ∙ sym c.in-Empty.ensures in
    let t = c.take.ensures.takes in
    let name = c.take.ensures.same ∙ c.peek.ensures.same in
    record {
      skips = rw name (skips_line _ _ _ _ _ c.packets.invariant.skips h (subst IsPassed (sym k) tt) t);
      reported = reported-empty g.P.BandText.receives g.P.BandText.spares g.I.Interrupt.polls _ _ _ _ _ _ c.packets.invariant.reported h k t;
      same = name ∙ c.packets.invariant.same;
      interrupt = c.packets.invariant.interrupt;
      fault = c.packets.invariant.fault;
      place = c.take.ensures.place;
      asks = asked-empty g.I.Interrupt.polls _ _ _ _ _ _ c.packets.invariant.asks h k t;
    }

pub packets-preserved : goal.packets-preserved
packets-preserved g c =
    let h = rw c.if-not-branch.false at c.in_ok-peek.ensures.peeks in
    let k : band_of (g.T.ExtendedBufRead.reading c.peek.new.self.at.now).line ≡ Text c.in-Text.is_error =
    ap band_of (sym c.line.ensures) ∙ sym c.in-Text.ensures in
    let t = c.in_ok-tell-in-Text.ensures.reports in
    let name = c.in_ok-tell-in-Text.ensures.same ∙ c.peek.ensures.same in
    record {
      skips = rw name (skips_line _ _ _ _ _ c.packets.invariant.skips h (subst IsPassed (sym k) tt) t.0);
      reported =
          reported-text g.P.BandText.receives g.P.BandText.spares g.I.Interrupt.polls _ _ _ _ _ _ _ c.in-Text.is_error c.packets.invariant.reported
          h k t.0 t.1;
      same = name ∙ c.packets.invariant.same;
      interrupt = c.in_ok-tell-in-Text.ensures.interrupt ∙ c.packets.invariant.interrupt;
      fault = c.in_ok-tell-in-Text.ensures.fault ∙ c.packets.invariant.fault;
      place = c.in_ok-tell-in-Text.ensures.place;
      asks = asked-more g.I.Interrupt.polls _ _ _ _ _ _ _ c.in-Text.is_error c.packets.invariant.asks h k t.0 t.1.1;
    }

pub returns-in-Content-clause-first : goal.returns-in-Content-clause-first
returns-in-Content-clause-first g c =
    let h = rw c.if-not-branch.false at c.in_ok-peek.ensures.peeks in
    rw c.open.ensures.now (shows_first _ _ _
    (reported-known g.P.BandText.receives g.P.BandText.spares g.I.Interrupt.polls _ _ _ _ c.packets.invariant.reported) h)
