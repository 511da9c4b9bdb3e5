use Rattle.std.proofs.Common.{◌≡◌, subst, true}
use Rattle.gixp_sidebands.specs.Bands.{is_held}
use Rattle.gixp_sidebands.proofs.ContentLemmas.{holds_line}
use Rattle.gixp_sidebands.proofs.AskLemmas.{below-content}
use Rattle.gixp_sidebands.proofs.sidebands.WithSidebandsExtendedBufRead.next_line.Goals as goal

pub returns-clause-asks : goal.returns-clause-asks
returns-clause-asks g c =
    let reading = g.T.ExtendedBufRead.reading in
    let s = c.skip_to_content.new.self.front in
    let place = rw c.if-not-branch.false at c.in_ok-skip_to_content.ensures.place in
    let h = holds_line 0 (reading s.at.now) (subst (λ p. is_held p (reading s.at.now) ≡ true) place s.held) in
    let k = c.in_ok-skip_to_content.ensures.asks in
    (below-content g.I.Interrupt.polls _ _ _ _ _ _ k.0 h.content h.peeked c.take.ensures.takes, k.1)
