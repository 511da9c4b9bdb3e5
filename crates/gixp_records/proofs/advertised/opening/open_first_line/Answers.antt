use Rattle.std.proofs.Common.{sym, ap, ◌∙◌}
use Rattle.gixp_transport.specs.CapabilityAdvertisement.{one, unnamed, version_named, by_version}
use Rattle.gixp_records.specs.Span.{text_at}
use Rattle.gixp_records.specs.Packets.{pieces_at}
use Rattle.gixp_records.specs.RefsOpening.{named_as}
use Rattle.gixp_records.proofs.OpeningLemmas.{names_one, names_two, names_another, names_none, opened_by}
use Rattle.gixp_records.proofs.advertised.opening.open_first_line.Goals as goal

pub returns-in-One : goal.returns-in-One
returns-in-One c =
    let bytes = c.args.bytes.now in
    let text = text_at bytes c.args.line in
    let shown = ap (λ t. named_as (version_named t)) (sym c.text_at.ensures) ∙ sym c.named_version.ensures ∙ c.in-One.is in
    opened_by bytes (version_named text) one _ _ c.open_ref_line.result (names_one (version_named text) shown) c.open_ref_line.ensures

pub returns-in-Two : goal.returns-in-Two
returns-in-Two c =
    let bytes = c.args.bytes.now in
    let text = text_at bytes c.args.line in
    let shown = ap (λ t. named_as (version_named t)) (sym c.text_at.ensures) ∙ sym c.named_version.ensures ∙ c.in-Two.is in (
      pieces_at bytes c.args.next,
      ap (λ n. by_version n (pieces_at bytes 0) (pieces_at bytes c.args.next))
          (names_two (version_named text) shown),
    )

pub returns-in-Another : goal.returns-in-Another
returns-in-Another c =
    let bytes = c.args.bytes.now in
    let text = text_at bytes c.args.line in
    let shown = ap (λ t. named_as (version_named t)) (sym c.text_at.ensures) ∙ sym c.named_version.ensures ∙ c.in-Another.is in
    let named = names_another (version_named text) shown in
    (named.0, ap (λ n. by_version n (pieces_at bytes 0) (pieces_at bytes c.args.next)) named.1)

pub returns-in-Unnamed : goal.returns-in-Unnamed
returns-in-Unnamed c =
    let bytes = c.args.bytes.now in
    let text = text_at bytes c.args.line in
    let shown = ap (λ t. named_as (version_named t)) (sym c.text_at.ensures) ∙ sym c.named_version.ensures ∙ c.in-Unnamed.is in
    opened_by bytes (version_named text) unnamed _ _ c.open_ref_line-in-Unnamed.result (names_none (version_named text) shown)
    c.open_ref_line-in-Unnamed.ensures
