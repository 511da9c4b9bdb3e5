use Rattle.std.proofs.Common.{◌≡◌, take}
use Rattle.gixp_remote_session.specs.ListedObjects.{refs_of_list}
use Rattle.gixp_remote_session.proofs.repository.refs_of.Given as goal

abbrev pub invariant-listed : goal.invariant-listed
invariant-listed l = l.refs ≡ refs_of_list (take l.one-index l.listed)
