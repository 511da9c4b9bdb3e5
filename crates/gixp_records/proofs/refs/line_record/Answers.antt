use Rattle.std.proofs.Common.{sym, ap, ◌∙◌}
use Rattle.gixp_records.specs.Span.{text_at}
use Rattle.gixp_records.specs.Refs.{ref_in}
use Rattle.gixp_records.specs.ListedLine.{loses_white_space}
use Rattle.gixp_records.proofs.ListedLineLemmas.{v2_listed-err, v2_listed-lossy, v2_listed-kept}
use Rattle.gixp_records.proofs.refs.line_record.Goals as goal

pub returns-then-loses_white_space-clause-value : goal.returns-then-loses_white_space-clause-value
returns-then-loses_white_space-clause-value c =
    let bytes = c.args.bytes.now in
    v2_listed-lossy (text_at bytes c.args.payload) (ref_in bytes c.in-Ok.record) c.in-Ok.ensures.value
    (ap loses_white_space (sym c.text_at.ensures) ∙ sym c.loses_white_space.ensures ∙ c.if-loses_white_space.true)

pub returns-else-loses_white_space-clause-value : goal.returns-else-loses_white_space-clause-value
returns-else-loses_white_space-clause-value c =
    let bytes = c.args.bytes.now in
    v2_listed-kept (text_at bytes c.args.payload) (ref_in bytes c.in-Ok.record) c.in-Ok.ensures.value
    (ap loses_white_space (sym c.text_at.ensures) ∙ sym c.loses_white_space.ensures ∙ c.if-loses_white_space.false)

pub returns-in-Err-clause-value : goal.returns-in-Err-clause-value
returns-in-Err-clause-value c = v2_listed-err (text_at c.args.bytes.now c.args.payload) c.in-Err.e c.in-Err.ensures.value
