use Rattle.std.proofs.Common.{refl, arith, ap, sym, ◌∙◌}
use Rattle.std.specs.Prelude.{codes}
use Rattle.gixp_capabilities.specs.Capabilities.{is_text}
use Rattle.gixp_refs.specs.RefLine.{malformed_symref}
use Rattle.gixp_refs.specs.RefAdvertisement.{symref_by}
use Rattle.gixp_records.specs.Span.{text_at}
use Rattle.gixp_records.proofs.SpanLemmas.{length-text_at}
use Rattle.gixp_records.proofs.AdvertisedLineLemmas.{symref_nameless, symref_targetless, symref_null}
use Rattle.gixp_records.proofs.advertised.symrefs.read_value.Goals as goal

pub returns-in-None-clause-value : goal.returns-in-None-clause-value
returns-in-None-clause-value c =
    let value = text_at c.args.bytes.now c.args.value in
    (malformed_symref value, ap (symref_by value) (rw c.in-None.is at c.cut_at-target.ensures.parts), refl)

pub returns-then-name-eq0-clause-value : goal.returns-then-name-eq0-clause-value
returns-then-name-eq0-clause-value c =
    let bytes = c.args.bytes.now in
    let value = text_at bytes c.args.value in
    let name = c.cut_at-target.result.0 in
    let whole = rw c.in-Some.is at c.cut_at-target.ensures.parts in
    let size = length-text_at bytes name.at name.len c.cut_at-target.ensures.first in
    let empty = c.if-name-eq0.true in (
      malformed_symref value,
      ap (symref_by value) whole ∙ symref_nameless value (text_at bytes name) (text_at bytes c.in-Some.target) (omega arith),
      refl,
    )

pub returns-then-target-eq0-clause-value : goal.returns-then-target-eq0-clause-value
returns-then-target-eq0-clause-value c =
    let bytes = c.args.bytes.now in
    let value = text_at bytes c.args.value in
    let name = c.cut_at-target.result.0 in
    let target = c.in-Some.target in
    let whole = rw c.in-Some.is at c.cut_at-target.ensures.parts in
    let within = rw c.in-Some.is at c.cut_at-target.ensures.rest in
    let size = length-text_at bytes target.at target.len within in
    let empty = c.if-target-eq0.true in (
      malformed_symref value,
      ap (symref_by value) whole ∙ symref_targetless value (text_at bytes name) (text_at bytes target) (omega arith),
      refl,
    )

pub returns-then-is_null-clause-value : goal.returns-then-is_null-clause-value
returns-then-is_null-clause-value c =
    let bytes = c.args.bytes.now in
    let value = text_at bytes c.args.value in
    let name = c.cut_at-target.result.0 in
    let target = c.in-Some.target in
    let whole = rw c.in-Some.is at c.cut_at-target.ensures.parts in
    let within = rw c.in-Some.is at c.cut_at-target.ensures.rest in
    let size = length-text_at bytes target.at target.len within in
    let name_size = length-text_at bytes name.at name.len c.cut_at-target.ensures.first in
    let full = c.if-target-eq0.false in
    let full_name = c.if-name-eq0.false in
    ap (symref_by value) whole
    ∙ symref_null value (text_at bytes name) (text_at bytes target) (λ z. omega arith) (λ z. omega arith)
    (ap (λ t. is_text t (codes "(null)")) (sym c.text_at.ensures) ∙ sym c.is_null.ensures ∙ c.if-is_null.true)
