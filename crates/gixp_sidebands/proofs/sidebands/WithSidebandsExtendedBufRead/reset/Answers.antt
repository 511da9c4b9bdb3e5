use Rattle.std.proofs.Common.{refl, inl}
use Rattle.gixp_sidebands.proofs.AskLemmas.{asked-reset}
use Rattle.gixp_sidebands.proofs.sidebands.WithSidebandsExtendedBufRead.reset.Goals as goal

pub returns-clause-asks : goal.returns-clause-asks
returns-clause-asks g c = (inl (asked-reset g.I.Interrupt.polls c.args.version _ _ _ c.reset.ensures.reset), refl)
