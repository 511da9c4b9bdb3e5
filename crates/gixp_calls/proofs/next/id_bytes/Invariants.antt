use Rattle.std.proofs.Common.{◌≡◌, take}
use Rattle.gixp_calls.specs.NextExport.{id_bytes}
use Rattle.gixp_calls.proofs.next.id_bytes.Given as goal

abbrev pub invariant-loop-id : goal.invariant-loop-id
invariant-loop-id l = l.bytes.items ≡ id_bytes (take l.id-index l.ids)
