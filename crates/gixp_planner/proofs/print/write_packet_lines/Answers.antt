use Rattle.std.proofs.lemmas.Result.{err_from_is_err_and}
use Rattle.gixp_packetline.specs.PacketLine.{frame_of}
use Rattle.gixp_planner.proofs.PrintLemmas.{lines-next, next-part, next-fails}
use Rattle.gixp_planner.proofs.print.write_packet_lines.Goals as goal

pub returns-in_err-append_pieces-in-Ok-Some : goal.returns-in_err-append_pieces-in-Ok-Some
returns-in_err-append_pieces-in-Ok-Some g c =
    let split = rw c.in-Ok-Some.field-0-is at c.in-Ok-Some.ensures in
    let p = err_from_is_err_and c.from_residual.result c.from_residual.ensures.1 in
    rw (p.1, p.2) (
      next-fails _ _ _ _ _ _ _ _ c.lines.invariant
          (lines-next _ c.in-Ok-Some.after.now c.content.result.now (frame_of c.in-Ok-Some.line) split.0 c.content.ensures)
          c.in_err-append_pieces-in-Ok-Some.ensures.text.0,
      c.in_err-append_pieces-in-Ok-Some.ensures.text.1,
    )

pub lines-preserved : goal.lines-preserved
lines-preserved g c =
    let split = rw c.in-Ok-Some.field-0-is at c.in-Ok-Some.ensures in
    next-part _ _ _ _ _ _ _ _ _ c.lines.invariant
    (lines-next _ c.in-Ok-Some.after.now c.content.result.now (frame_of c.in-Ok-Some.line) split.0 c.content.ensures)
    c.in_ok-append_pieces-in-Ok-Some.ensures.text
