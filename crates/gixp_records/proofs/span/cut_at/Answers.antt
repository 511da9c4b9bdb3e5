use Rattle.gixp_records.proofs.SpanLemmas.{cut-text_at}
use Rattle.gixp_records.proofs.span.cut_at.Goals as goal

pub returns-in-Some-clause-parts : goal.returns-in-Some-clause-parts
returns-in-Some-clause-parts c =
    let whole = rw (c.in-Some.is, c.text_at.ensures) at c.cut.ensures in
    cut-text_at c.args.bytes.now c.args.byte c.args.span.at c.args.span.len c.cut.result.0.now c.in-Some.rest.now c.requires whole
