use Rattle.std.proofs.Common.{◌≡◌, false, None}
use Rattle.gixp_sidebands.specs.Reporting.{Reported}
use Rattle.gixp_sidebands.specs.Questions.{Asked}
use Rattle.gixp_sidebands.specs.Sidebands.{sidebands_reading, listener}
use Rattle.gixp_sidebands.proofs.BandLemmas.{Skipping}
use Rattle.gixp_sidebands.proofs.sidebands.WithSidebands.skip_to_content.Given as goal

abbrev pub invariant-packets : goal.invariant-packets
invariant-packets g l =
    let reading = g.T.ExtendedBufRead.reading in
    record {
      skips : Skipping (sidebands_reading reading l.fn.self) l.self.front.at.ghost_name (reading l.self.front.at.now);
      reported : Reported g.P.BandText.receives g.P.BandText.spares g.I.Interrupt.polls g.T.ExtendedBufRead.is_plain None
          (reading l.fn.self.front.at.now) (reading l.self.front.at.now) (listener l.fn.self) (listener l.self);
      same : l.self.front.at.ghost_name ≡ l.fn.self.front.at.ghost_name;
      interrupt : l.self.interrupt.ghost_name ≡ l.fn.self.interrupt.ghost_name;
      fault : l.self.fault ≡ l.fn.self.fault;
      place : l.self.front.place ≡ None;
      asks : Asked g.I.Interrupt.polls false (reading l.fn.self.front.at.now) (reading l.self.front.at.now) l.fn.self.interrupt.now
          l.self.interrupt.now;
    }

abbrev pub decreases-packets : goal.decreases-packets
decreases-packets g l = (g.T.ExtendedBufRead.reading l.self.front.at.now).left
