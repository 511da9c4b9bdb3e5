use Rattle.std.proofs.Common.{refl, arith, Ok}
use Rattle.gixp_refs.specs.RefLine.{malformed_v2}
use Rattle.gixp_records.specs.RecordLine.{attributes_in}
use Rattle.gixp_records.specs.Span.{text_at}
use Rattle.gixp_records.proofs.SpanLemmas.{length-text_at}
use Rattle.gixp_records.proofs.RecordLineLemmas.{matched_same, attribute_value, attribute_empty, attribute_alone}
use Rattle.gixp_records.proofs.line.read_attribute.Goals as goal

pub returns-else-value-eq0-clause-attributes : goal.returns-else-value-eq0-clause-attributes
returns-else-value-eq0-clause-attributes c =
    let bytes = c.args.bytes.now in
    let value = c.in-Some.value in
    let whole = rw c.in-Some.is at c.cut_at-value.ensures.parts in
    let within = rw c.in-Some.is at c.cut_at-value.ensures.rest in
    let some = length-text_at bytes value.at value.len within in
    let full = c.if-value-eq0.false in
    λ line.
    matched_same (λ attributes. Ok (attributes_in bytes attributes)) _ _ c.name_attribute.result
    (attribute_value line (text_at bytes c.args.piece) (text_at bytes c.cut_at-value.result.0) (text_at bytes value)
    (attributes_in bytes c.args.had) whole (λ z. omega arith))
    (rw c.text_at.ensures at (c.name_attribute.ensures.attributes line))

pub returns-then-value-eq0-clause-attributes : goal.returns-then-value-eq0-clause-attributes
returns-then-value-eq0-clause-attributes c =
    let bytes = c.args.bytes.now in
    let value = c.in-Some.value in
    let whole = rw c.in-Some.is at c.cut_at-value.ensures.parts in
    let within = rw c.in-Some.is at c.cut_at-value.ensures.rest in
    let some = length-text_at bytes value.at value.len within in
    let empty = c.if-value-eq0.true in
    λ line. (
      malformed_v2 line,
      attribute_empty line (text_at bytes c.args.piece) (text_at bytes c.cut_at-value.result.0) (text_at bytes value)
          (attributes_in bytes c.args.had) whole (omega arith),
      refl,
    )

pub returns-in-None-clause-attributes : goal.returns-in-None-clause-attributes
returns-in-None-clause-attributes c =
    let bytes = c.args.bytes.now in
    λ line. (
      malformed_v2 line,
      attribute_alone line (text_at bytes c.args.piece) (text_at bytes c.cut_at-value.result.0) (attributes_in bytes c.args.had)
          (rw c.in-None.is at c.cut_at-value.ensures.parts),
      refl,
    )
