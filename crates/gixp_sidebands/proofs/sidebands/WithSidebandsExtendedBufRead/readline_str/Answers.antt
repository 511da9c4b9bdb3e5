use Rattle.std.proofs.Common.{◌≡◌, refl, subst, true, Some, None}
use Rattle.gixp_packetline.specs.Pieces.{memory, not_utf8}
use Rattle.gixp_sidebands.specs.Bands.{is_held}
use Rattle.gixp_sidebands.proofs.BandLemmas.{seen_by, takes_content}
use Rattle.gixp_sidebands.proofs.ContentLemmas.{holds_line}
use Rattle.gixp_sidebands.proofs.TellLemmas.{reported-content, reported-kept}
use Rattle.gixp_sidebands.proofs.AskLemmas.{below-content}
use Rattle.gixp_sidebands.proofs.sidebands.WithSidebandsExtendedBufRead.readline_str.Goals as goal

pub returns-in_default-clause-text : goal.returns-in_default-clause-text
returns-in_default-clause-text g c =
    let reading = g.T.ExtendedBufRead.reading in
    let s = c.peek_line.new.self.front in
    let place = rw c.if-not-branch.false at c.in_ok-peek_line.ensures.place in
    let h = holds_line 0 (reading s.at.now) (subst (λ p. is_held p (reading s.at.now) ≡ true) place s.held) in
    let n = c.take.new.self in
    let below = seen_by s.place (Some 0) _ s.at.ghost_name (reading s.at.now) place refl refl in
    let above = seen_by n.place None _ n.at.ghost_name (reading n.at.now) c.take.ensures.place refl c.take.ensures.same in
    let shown = rw below at (rw c.if-not-branch.false at c.in_ok-peek_line.ensures.peeks) in
    let line = c.take.ensures.takes.again h.peeked in (
      rw above (takes_content _ _ _ _ shown h.content h.peeked c.take.ensures.takes),
      rw (line, ← c.line.ensures) c.in_default.ensures.cases.0,
      refl,
    )

pub returns-in_default-clause-reported : goal.returns-in_default-clause-reported
returns-in_default-clause-reported g c =
    let reading = g.T.ExtendedBufRead.reading in
    let s = c.peek_line.new.self.front in
    let place = rw c.if-not-branch.false at c.in_ok-peek_line.ensures.place in
    let h = holds_line 0 (reading s.at.now) (subst (λ p. is_held p (reading s.at.now) ≡ true) place s.held) in
    reported-kept g.P.BandText.receives g.P.BandText.spares g.I.Interrupt.polls g.T.ExtendedBufRead.is_plain not_utf8 _ _ _ _ (λ e. cc)
    (reported-content g.P.BandText.receives g.P.BandText.spares g.I.Interrupt.polls _ _ _ _ _ c.in_ok-peek_line.ensures.reported h.content h.peeked
    c.take.ensures.takes)

pub returns-then-is_err-clause-reported : goal.returns-then-is_err-clause-reported
returns-then-is_err-clause-reported g c =
    reported-kept g.P.BandText.receives g.P.BandText.spares g.I.Interrupt.polls g.T.ExtendedBufRead.is_plain memory _ _ _ _
    (λ e. cc) c.in_ok-peek_line.ensures.reported

pub returns-in_default-clause-asks : goal.returns-in_default-clause-asks
returns-in_default-clause-asks g c =
    let reading = g.T.ExtendedBufRead.reading in
    let s = c.peek_line.new.self.front in
    let place = rw c.if-not-branch.false at c.in_ok-peek_line.ensures.place in
    let h = holds_line 0 (reading s.at.now) (subst (λ p. is_held p (reading s.at.now) ≡ true) place s.held) in
    let k = c.in_ok-peek_line.ensures.asks in
    (below-content g.I.Interrupt.polls _ _ _ _ _ _ k.0 h.content h.peeked c.take.ensures.takes, k.1)

pub returns-clause-asks : goal.returns-clause-asks
returns-clause-asks g c =
    let reading = g.T.ExtendedBufRead.reading in
    let s = c.peek_line.new.self.front in
    let place = rw c.if-not-branch.false at c.in_ok-peek_line.ensures.place in
    let h = holds_line 0 (reading s.at.now) (subst (λ p. is_held p (reading s.at.now) ≡ true) place s.held) in
    let k = c.in_ok-peek_line.ensures.asks in
    (below-content g.I.Interrupt.polls _ _ _ _ _ _ k.0 h.content h.peeked c.take-2.ensures.takes, k.1)
