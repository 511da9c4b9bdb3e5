use Rattle.std.proofs.Common.{◌∙◌, ap, Ok, Err, subst}
use Rattle.bstr.specs.Owned.{bstring_bytes}
use Rattle.gixp_records.specs.SpecText.{AddsLineSpec}
use Rattle.gixp_records.proofs.SpecTextLemmas.{spec-lines-next, spec-lines-refused-at}
use Rattle.gixp_records.proofs.spec_text.line_specs.Goals as goal

pub returns-in-Err : goal.returns-in-Err
returns-in-Err c = spec-lines-refused-at c.args.lines.now c.loop-line.line-index _ _ c.loop-line.specs.items c.push_spec.new.specs.items
    c.in-Err.e c.loop-line.invariant c.loop-line-test.true
    (subst (λ l. AddsLineSpec l c.loop-line.specs.items c.push_spec.new.specs.items (Err c.in-Err.e))
    (c.new.ensures ∙ c.as_bytes.ensures ∙ ap bstring_bytes c.line-item.is) c.in-Err.ensures)

pub loop-line-preserved : goal.loop-line-preserved
loop-line-preserved c = spec-lines-next c.args.lines.now c.loop-line.line-index _ c.loop-line.specs.items c.push_spec.new.specs.items
    c.in-Ok.field-0 c.loop-line.invariant c.loop-line-test.true
    (subst (λ l. AddsLineSpec l c.loop-line.specs.items c.push_spec.new.specs.items (Ok c.in-Ok.field-0))
    (c.new.ensures ∙ c.as_bytes.ensures ∙ ap bstring_bytes c.line-item.is) c.in-Ok.ensures)
