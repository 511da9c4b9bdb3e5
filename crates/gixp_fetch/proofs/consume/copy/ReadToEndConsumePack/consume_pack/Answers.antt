use Rattle.std.proofs.Common.{refl, []}
use Rattle.gixp_fetch.proofs.CopyLemmas.{copied_none, passed_piece, copied_all, copied_refused}
use Rattle.gixp_fetch.proofs.consume.copy.ReadToEndConsumePack.consume_pack.Goals as goal

pub pieces-init : goal.pieces-init
pieces-init g c = ([], copied_none _ _)

pub returns-in-Ok-false : goal.returns-in-Ok-false
returns-in-Ok-false g c = (
  refl,
  copied_all _ _ _ _ _ c.pieces.invariant.0 c.pieces.invariant.1 (rw c.in-Ok-false.field-0-test at c.in-Ok-false.ensures.fills),
)

pub pieces-preserved : goal.pieces-preserved
pieces-preserved g c =
    passed_piece _ _ _ _ _
    (rw c.in-Ok-true.field-0-test at c.in-Ok-true.ensures.fills) c.consume.ensures.content c.buffer-count.ensures refl _ _
    c.pieces.invariant.1

pub returns-in-Err : goal.returns-in-Err
returns-in-Err g c =
    copied_refused _ _ _ _ _ _ c.pieces.invariant.0 c.in-Err.e _ c.pieces.invariant.1 c.in-Err.ensures.fills c.read_error.ensures.taken
    c.read_error.ensures.side
