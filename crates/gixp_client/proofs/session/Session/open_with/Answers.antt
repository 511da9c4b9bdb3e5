use Rattle.std.proofs.Common.{ap}
use Rattle.gixp_client.proofs.OpenLemmas.{opened_by}
use Rattle.gixp_client.proofs.session.Session.open_with.Goals as goal

pub returns-clause-opened : goal.returns-clause-opened
returns-clause-opened g c =
    opened_by _ _ _ _ _ _ _ _ (ap g.T.ExtendedBufRead.reading c.new-transport.ensures.inner) c.in_ok-shaken.ensures.completes
