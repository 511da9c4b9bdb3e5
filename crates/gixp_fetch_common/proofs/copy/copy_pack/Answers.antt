use Rattle.std.proofs.Common.{sym, refl, ◌++◌}
use Rattle.gixp_fetch_common.proofs.PackLemmas.{copied_piece, copied_all, refused_read, lent_alone, lent_unwritten}
use Rattle.gixp_fetch_common.proofs.copy.copy_pack.Goals as goal

pub returns-in-Ok : goal.returns-in-Ok
returns-in-Ok g c =
    let inv = c.pieces.invariant in (
      inv.0,
      copied_all _ _ _ _ _ inv.0 inv.1 (rw c.in-Ok-false.field-0-test at c.in-Ok-false.ensures.fills),
      sym (c.in-Ok.ensures inv.0 inv.2),
    )

pub returns-in-Err-finish : goal.returns-in-Err-finish
returns-in-Err-finish g c =
    let inv = c.pieces.invariant in (
      inv.0,
      copied_all _ _ _ _ _ inv.0 inv.1 (rw c.in-Ok-false.field-0-test at c.in-Ok-false.ensures.fills),
      sym (c.in-Err-finish.ensures inv.0 inv.2),
    )

pub returns-in-Err : goal.returns-in-Err
returns-in-Err g c = let inv = c.pieces.invariant in
    refused_read _ _ _ _ _ inv.0 c.in-Err.e c.kind.result inv.1 c.in-Err.ensures.fills c.kind.ensures

pub returns-in-Err-take : goal.returns-in-Err-take
returns-in-Err-take g c = let inv = c.pieces.invariant in
    lent_alone _ _ _ _ _ inv.0 inv.1 (rw c.in-Ok-true.field-0-test at c.in-Ok-true.ensures.fills)

pub returns-in-Err-write_all : goal.returns-in-Err-write_all
returns-in-Err-write_all g c = let inv = c.pieces.invariant in
    lent_unwritten _ _ _ _ _ inv.0 inv.1 (rw c.in-Ok-true.field-0-test at c.in-Ok-true.ensures.fills)

pub pieces-preserved : goal.pieces-preserved
pieces-preserved g c =
    let inv = c.pieces.invariant in (
      inv.0 ++ c.buffer-piece.result.now,
      copied_piece _ _ _ _ _
          (rw c.in-Ok-true.field-0-test at c.in-Ok-true.ensures.fills) c.consume.ensures.content c.buffer-piece.ensures refl _ _ _ _
          inv.0 inv.1 c.in-Ok-write_all.ensures.bytes,
      c.in-Ok-take.ensures.taken inv.0 inv.2,
    )
