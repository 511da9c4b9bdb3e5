use Rattle.std.proofs.Common.{◌==◌, sym, ap, ◌∙◌}
use Rattle.gixp_records.specs.Span.{text_at}
use Rattle.gixp_records.specs.ListedLine.{listed_v1}
use Rattle.gixp_records.specs.RefsOpening.{advertised_lines}
use Rattle.gixp_records.proofs.AdvertisedLineLemmas.{refused_same}
use Rattle.gixp_records.proofs.AdvertisedLemmas.{shown_text, shown_at, line_comes}
use Rattle.gixp_records.proofs.advertised.groups.next_advertised.Goals as goal

pub returns-in-Err-read_advertised_line : goal.returns-in-Err-read_advertised_line
returns-in-Err-read_advertised_line c =
    let bytes = c.args.bytes.now in
    let o = c.args.opening.now in
    let at = c.args.at in
    let payload = c.in-Ok-Line.payload in
    let text = text_at bytes payload in
    let received = rw c.in-Ok-Line.field-0-is at c.in-Ok-Line.ensures in
    let cut = ap (text_at bytes) c.cut_first.ensures ∙ shown_at (at == o.first) o.cut bytes payload received.1 in (
      shown_text (at == o.first) o.cut text,
      advertised_lines bytes o c.in-Ok-Line.next,
      line_comes bytes o at c.in-Ok-Line.next text c.requires.first received.3.0 received.0,
      refused_same _ _ c.in-Err-read_advertised_line.e (ap listed_v1 (sym cut)) c.in-Err-read_advertised_line.ensures.value,
    )
