-- The fetch uses a copy of the shallow updates of the handshake.
use Rattle.gixp_client.proofs.RunLemmas.{same_call, carried_by, kept_whole}
use Rattle.gixp_client.proofs.session.Session.carry_out.Goals as goal

pub returns-clause-fetched : goal.returns-clause-fetched
returns-clause-fetched g c =
    carried_by _ _ _ _ _ _ _ _ _ _ _ _ _ _ _ _ _ _ _ _ _
    (same_call c.args.self.now.shaken c.args.report _ _ c.args.wanted.request.now c.requires)
    c.fetch_mapped-received.ensures.fetched c.state_after_fetch-self.ensures
    (kept_whole c.args.self.now.shaken _ _ _ _ _ c.fetch_mapped-received.ensures.taken c.take-first.ensures.value c.updates_left.ensures)
