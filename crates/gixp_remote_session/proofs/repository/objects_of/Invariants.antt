use Rattle.std.proofs.Common.{◌≡◌, take}
use Rattle.gixp_remote_session.specs.ListedObjects.{objects_of_list}
use Rattle.gixp_remote_session.proofs.repository.objects_of.Given as goal

abbrev pub invariant-listed : goal.invariant-listed
invariant-listed l = l.objects ≡ objects_of_list (take l.one-index l.listed)
