use Rattle.std.proofs.Common.{◌≡◌, false, sym, ap, ◌∙◌, rules, map}
use Rattle.gixp_capabilities.specs.Capabilities.{is_text}
use Rattle.gixp_refs.specs.RefAdvertisement.{symref_named}
use Rattle.gixp_records.specs.Span.{text_at}
use Rattle.gixp_records.specs.V1RecordLine.{symref_at, named_in}
use Rattle.gixp_records.proofs.AdvertisedLemmas.{pair_of_symref, pair_of_other}
use Rattle.gixp_records.proofs.advertised.groups.pair_record.Goals as goal

pub returns-then-is_some-clause-value : goal.returns-then-is_some-clause-value
returns-then-is_some-clause-value c =
    let bytes = c.args.bytes.now in
    pair_of_symref bytes c.find_symref.result _ (named_in bytes c.args.named) (text_at bytes c.args.left) (text_at bytes c.args.base)
    (c.find_symref.ensures.found ∙ ap (symref_named (map (symref_at bytes) c.args.symrefs.now)) c.text_at-name.ensures)
    (sym c.is_some.ensures ∙ c.if-is_some.true)

pub returns-then-ne-clause-value : goal.returns-then-ne-clause-value
returns-then-ne-clause-value c =
    let bytes = c.args.bytes.now in
    let other : is_text c.text_at-name.result.now c.text_at.result.now ≡ false = search rules in
    pair_of_other bytes c.find_symref.result _ (named_in bytes c.args.named) (text_at bytes c.args.left) (text_at bytes c.args.base)
    (c.find_symref.ensures.found ∙ ap (symref_named (map (symref_at bytes) c.args.symrefs.now)) c.text_at-name.ensures)
    (sym c.is_some.ensures ∙ c.if-is_some.false)
    (ap (λ t. is_text t (text_at bytes c.args.base)) (sym c.text_at-name.ensures)
    ∙ ap (is_text c.text_at-name.result.now) (sym c.text_at.ensures) ∙ other)
