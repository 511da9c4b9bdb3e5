use Rattle.std.proofs.Common.{ap}
use Rattle.gixp_packetline.specs.declared.protocol.Protocol.TheVariants.{V2}
use Rattle.gixp_packetline.specs.Lines.{lines_of}
use Rattle.gixp_records.specs.Span.{text_at}
use Rattle.gixp_records.specs.Refs.{lines_at}
use Rattle.gixp_records.proofs.refs.next_ref.Goals as goal

pub returns-in-Err-line_record : goal.returns-in-Err-line_record
returns-in-Err-line_record c =
    let bytes = c.args.bytes.now in
    let received = rw c.in-Ok-Line.field-0-is at c.in-Ok-Line.ensures in (
      text_at bytes c.in-Ok-Line.payload,
      lines_at bytes c.in-Ok-Line.next,
      ap (lines_of V2) received.0,
      c.in-Err-line_record.ensures.value,
    )
