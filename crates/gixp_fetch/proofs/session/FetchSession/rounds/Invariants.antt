use Rattle.std.proofs.Common.{◌<◌, length}
use Rattle.gixp_fetch.specs.FetchRounds.{Running}
use Rattle.gixp_fetch.specs.FetchProgress.{ReportsRounds}
use Rattle.gixp_fetch.specs.Lent.{IsSameSession, manner_in, position, begins}
use Rattle.gixp_fetch.proofs.session.FetchSession.rounds.Given as goal

abbrev pub invariant-rounds : goal.invariant-rounds
invariant-rounds g l = record {
  same : IsSameSession l.fn.self l.self;
  window : 0 < l.so_far.window.haves_to_send;
  running : Running
      (manner_in g.N.Negotiate.calls g.I.Interrupt.polls g.T.ExtendedBufRead.is_plain l.fn.self)
      (begins g.T.ExtendedBufRead.reading l.fn.negotiate l.fn.self l.stateless l.fn.arguments)
      (position g.T.ExtendedBufRead.reading l.negotiate l.self l.so_far l.previous)
      l.so_far.rounds.items l.so_far.updates.items;
  reported : ReportsRounds g.P.Progress.reported g.P.NestedProgress.adds l.fn.self.sideband_all (length l.so_far.rounds.items)
      l.fn.self.progress.now l.self.progress.now;
}

abbrev pub decreases-rounds : goal.decreases-rounds
decreases-rounds g l = g.N.Negotiate.calls.count l.negotiate
