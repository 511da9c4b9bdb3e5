use Rattle.std.proofs.Common.{refl, arith}
use Rattle.gixp_calls.proofs.RoomLemmas.{filled}
use Rattle.gixp_calls.specs.Exports.{advertised_read}
use Rattle.gixp_calls.proofs.advertised.list_advertised.Goals as goal

pub returns : goal.returns
returns c =
    advertised_read c.read_advertised-read.result (omega arith) (filled _ _ c.is_empty.ensures c.if-is_empty.false) c.read_advertised-read.ensures c.code_of-code.ensures.code
    (rw c.code_of-code.ensures.words refl)
