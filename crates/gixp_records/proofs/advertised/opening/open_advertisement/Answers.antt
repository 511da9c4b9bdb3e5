use Rattle.gixp_records.specs.Span.{text_at}
use Rattle.gixp_records.proofs.OpeningLemmas.{opened_first}
use Rattle.gixp_records.proofs.advertised.opening.open_advertisement.Goals as goal

pub returns-in-Ok-Line : goal.returns-in-Ok-Line
returns-in-Ok-Line c =
    let bytes = c.args.bytes.now in
    let received = rw c.in-Ok-Line.field-0-is at c.in-Ok-Line.ensures in
    opened_first bytes (text_at bytes c.in-Ok-Line.line) _ c.open_first_line.result received.0 c.open_first_line.ensures
