use Rattle.std.proofs.Common.{◌≡◌, false, codes, refl, rules}
use Rattle.gixp_capabilities.specs.Capabilities.{is_text}
use Rattle.gixp_refs.specs.RefLine.{unknown_attribute}
use Rattle.gixp_records.specs.RecordLine.{attributes_in}
use Rattle.gixp_records.specs.Span.{text_at}
use Rattle.gixp_records.proofs.RecordLineLemmas.{attribute_unknown}
use Rattle.gixp_records.proofs.line.name_attribute.Goals as goal

pub returns-clause-attributes : goal.returns-clause-attributes
returns-clause-attributes c =
    let name = c.args.name.now in
    let no_peeled : is_text name (codes "peeled") ≡ false = search rules in
    let no_target : is_text name (codes "symref-target") ≡ false = search rules in
    λ line. (
      unknown_attribute name line,
      attribute_unknown line name (text_at c.args.bytes.now c.args.value) (attributes_in c.args.bytes.now c.args.had) no_peeled no_target,
      refl,
    )
