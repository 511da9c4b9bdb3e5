use Rattle.gixp_fetch.proofs.SessionLemmas.{session_held}
use Rattle.gixp_fetch.proofs.laws.sessions_are_bounded.Goals as goal

pub returns : goal.returns
returns g c = λ plain call old result new progress h.
    session_held _ g.met.N.PaysForHaves.lawful g.met.N.PaysForHaves.wide call old result new progress h
