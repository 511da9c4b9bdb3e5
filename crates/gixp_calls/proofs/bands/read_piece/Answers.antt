use Rattle.std.proofs.Common.{refl, arith}
use Rattle.gixp_calls.specs.Exports.{read, refused}
use Rattle.gixp_calls.proofs.bands.read_piece.Goals as goal

pub returns-in-Ok : goal.returns-in-Ok
returns-in-Ok c =
    read c.in-Ok.found c.in-Ok.next (omega arith) c.in-Ok.ensures refl (rw (c.band_of.ensures, c.text_of.ensures) refl)

pub returns-in-Err : goal.returns-in-Err
returns-in-Err c = refused c.in-Err.e (omega arith) c.in-Err.ensures c.packet_code.ensures.code (rw c.words_or-piece.ensures refl)
