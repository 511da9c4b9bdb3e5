use Rattle.std.proofs.Common.{◌≡◌, true, false, codes, sym, ap, ◌∙◌, rules}
use Rattle.gixp_capabilities.specs.Capabilities.{is_text}
use Rattle.gixp_records.specs.Span.{text_at}
use Rattle.gixp_records.specs.V1RecordLine.{symref_at}
use Rattle.gixp_records.proofs.AdvertisedLineLemmas.{symref_other_name, symref_this_name, symref_told, symref_wrong}
use Rattle.gixp_records.proofs.advertised.symrefs.read_symref.Goals as goal

pub returns-then-ne-clause-value : goal.returns-then-ne-clause-value
returns-then-ne-clause-value c =
    let bytes = c.args.bytes.now in
    let other : is_text c.text_at.result.now (codes "symref") ≡ false = search rules in
    symref_other_name (text_at bytes c.args.word) (text_at bytes c.cut_at-value.result.0) _ c.cut_at-value.ensures.parts
    (ap (λ t. is_text t (codes "symref")) (sym c.text_at.ensures) ∙ other)

pub returns-in-Ok-clause-value : goal.returns-in-Ok-clause-value
returns-in-Ok-clause-value c =
    let bytes = c.args.bytes.now in
    let same : is_text c.text_at.result.now (codes "symref") ≡ true = search rules in
    symref_told (text_at bytes c.args.word) (text_at bytes c.cut_at-value.result.0) (text_at bytes c.in-Some.value)
    (symref_at bytes c.in-Ok.symref) (rw c.in-Some.is at c.cut_at-value.ensures.parts)
    (ap (λ t. is_text t (codes "symref")) (sym c.text_at.ensures) ∙ same) c.in-Ok.ensures.value

pub returns-in-Err-clause-value : goal.returns-in-Err-clause-value
returns-in-Err-clause-value c =
    let bytes = c.args.bytes.now in
    let same : is_text c.text_at.result.now (codes "symref") ≡ true = search rules in
    symref_wrong (text_at bytes c.args.word) (text_at bytes c.cut_at-value.result.0) (text_at bytes c.in-Some.value) c.in-Err.e
    (rw c.in-Some.is at c.cut_at-value.ensures.parts) (ap (λ t. is_text t (codes "symref")) (sym c.text_at.ensures) ∙ same)
    c.in-Err.ensures.value

pub returns-in-None-clause-value : goal.returns-in-None-clause-value
returns-in-None-clause-value c =
    let bytes = c.args.bytes.now in
    let same : is_text c.text_at.result.now (codes "symref") ≡ true = search rules in
    symref_this_name (text_at bytes c.args.word) (text_at bytes c.cut_at-value.result.0) _
    (rw c.in-None.is at c.cut_at-value.ensures.parts) (ap (λ t. is_text t (codes "symref")) (sym c.text_at.ensures) ∙ same)
