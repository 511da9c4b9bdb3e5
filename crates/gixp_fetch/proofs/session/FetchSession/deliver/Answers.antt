use Rattle.gixp_fetch.proofs.FetchLemmas.{unsettled_by}
use Rattle.gixp_fetch.proofs.session.FetchSession.deliver.Goals as goal

pub returns-clause-err : goal.returns-clause-err
returns-clause-err g c =
    unsettled_by _ _ _ _ _ _ _ _ _ _ _ _ c.hold.new.self.store.now _ _ _ c.write_boundary.ensures.locked c.write_boundary.result
    c.in_ok-hold.ensures.held c.in_ok-receive.ensures.ok c.write_boundary.ensures.settled
