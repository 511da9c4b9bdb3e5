use Rattle.std.proofs.Common.{sym, ap, ◌∙◌}
use Rattle.std.specs.Prelude.{codes}
use Rattle.gixp_capabilities.specs.Capabilities.{is_text}
use Rattle.gixp_refs.specs.ParseError.{object_of}
use Rattle.gixp_records.specs.Span.{text_at}
use Rattle.gixp_records.proofs.RecordLineLemmas.{never_null, never_none}
use Rattle.gixp_records.proofs.refs.unborn.Goals as goal

pub returns-then-is_null-clause-value : goal.returns-then-is_null-clause-value
returns-then-is_null-clause-value c =
    let bytes = c.args.bytes.now in
    rw c.in-Some.is (never_null (text_at bytes c.args.name) (text_at bytes c.in-Some.target) (object_of c.args.attributes.peeled)
    (ap (λ t. is_text t (codes "(null)")) (sym c.text_at.ensures) ∙ sym c.is_null.ensures ∙ c.if-is_null.true))

pub returns-in-None-clause-value : goal.returns-in-None-clause-value
returns-in-None-clause-value c = rw c.in-None.is (never_none (text_at c.args.bytes.now c.args.name) (object_of c.args.attributes.peeled))
