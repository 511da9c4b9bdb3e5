use Rattle.std.proofs.Common.{sym, ap, ◌∙◌}
use Rattle.gixp_records.specs.Span.{text_at}
use Rattle.gixp_records.specs.Packets.{pieces_at, refusal_in}
use Rattle.gixp_records.specs.ListedLine.{loses_white_space}
use Rattle.gixp_records.proofs.LostSpaceLemmas.{loses-here, loses-later, loses-none, loses-refused}
use Rattle.gixp_records.proofs.white_space.lines_lose_white_space.Goals as goal

pub returns-then-loses_white_space : goal.returns-then-loses_white_space
returns-then-loses_white_space c =
    let bytes = c.args.bytes.now in
    let received = rw c.in-Ok-Line.field-0-is at c.in-Ok-Line.ensures in
    λ version. sym (c.lines.invariant.same version
    ∙ loses-here version (pieces_at bytes c.lines.at) (pieces_at bytes c.in-Ok-Line.next) (text_at bytes c.in-Ok-Line.line) received.0
    (ap loses_white_space (sym c.text_at.ensures) ∙ sym c.loses_white_space.ensures ∙ c.if-loses_white_space.true))

pub lines-preserved : goal.lines-preserved
lines-preserved c =
    let bytes = c.args.bytes.now in
    let received = rw c.in-Ok-Line.field-0-is at c.in-Ok-Line.ensures in
    record {
      same = λ version. c.lines.invariant.same version
          ∙ loses-later version (pieces_at bytes c.lines.at) (pieces_at bytes c.in-Ok-Line.next) (text_at bytes c.in-Ok-Line.line) received.0
          (ap loses_white_space (sym c.text_at.ensures) ∙ sym c.loses_white_space.ensures ∙ c.if-loses_white_space.false);
      within = received.3.1;
    }

pub returns-in-Ok-Mark : goal.returns-in-Ok-Mark
returns-in-Ok-Mark c =
    let bytes = c.args.bytes.now in
    let received = rw c.in-Ok-Mark.field-0-is at c.in-Ok-Mark.ensures in
    λ version. sym (c.lines.invariant.same version
    ∙ loses-none version (pieces_at bytes c.lines.at) (pieces_at bytes c.in-Ok-Mark.field-0-1) c.in-Ok-Mark.field-0-0 received.0)

pub returns-in-Err : goal.returns-in-Err
returns-in-Err c =
    let bytes = c.args.bytes.now in
    λ version. sym (c.lines.invariant.same version
    ∙ loses-refused version (pieces_at bytes c.lines.at) (refusal_in bytes c.in-Err.field-0) c.in-Err.ensures.0)
