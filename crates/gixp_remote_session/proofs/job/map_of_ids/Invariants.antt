use Rattle.std.proofs.Common.{◌≡◌, map, take}
use Rattle.gix_protocol.specs.Values.{mapping_value}
use Rattle.gixp_remote_session.specs.Wanted.{wanted}
use Rattle.gixp_remote_session.proofs.job.map_of_ids.Given as goal

abbrev pub invariant-loop-id : goal.invariant-loop-id
invariant-loop-id l = map mapping_value l.mappings.items ≡ map wanted (take l.id-index l.ids)
