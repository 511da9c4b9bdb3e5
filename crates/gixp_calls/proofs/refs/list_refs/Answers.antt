use Rattle.std.proofs.Common.{refl, arith}
use Rattle.gixp_calls.proofs.RoomLemmas.{filled}
use Rattle.gixp_calls.specs.Exports.{read}
use Rattle.gixp_calls.proofs.refs.list_refs.Goals as goal

pub returns : goal.returns
returns c =
    read c.read_refs-read.result (omega arith) (filled _ _ c.is_empty.ensures c.if-is_empty.false) c.read_refs-read.ensures c.code_of-code.ensures.code
    (rw c.code_of-code.ensures.words refl)
