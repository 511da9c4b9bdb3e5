use Rattle.std.proofs.Common.{ap}
use Rattle.gixp_sidebands.proofs.AskLemmas.{leave-takes}
use Rattle.gixp_sidebands.proofs.sidebands.WithSidebands.into_parts.Goals as goal

pub returns-clause-texts : goal.returns-clause-texts
returns-clause-texts g c =
    let reading = g.T.ExtendedBufRead.reading in
    let f = c.args.self.front in
    (leave-takes f.place (reading f.at.now) (reading c.into_inner.result.now) f.held c.into_inner.ensures.begun
    (λ e. ap reading (c.into_inner.ensures.fresh e))).1
