use Rattle.std.proofs.Common.{refl}
use Rattle.gixp_refs.specs.ParseError.{object_of}
use Rattle.gixp_refs.specs.RefLine.{malformed_v2}
use Rattle.gixp_records.specs.RecordLine.{line_ref_value}
use Rattle.gixp_records.specs.Span.{text_at}
use Rattle.gixp_records.proofs.RecordLineLemmas.{matched_same, line_none, line_then}
use Rattle.gixp_records.proofs.line.read_line.Goals as goal

pub returns-in-None-clause-attributes : goal.returns-in-None-clause-attributes
returns-in-None-clause-attributes c =
    let bytes = c.args.bytes.now in
    let trimmed = text_at bytes c.trimmed.result in (
      malformed_v2 trimmed,
      line_none (text_at bytes c.args.line) trimmed (text_at bytes c.cut_at-rest.result.0) c.trimmed.ensures.text
          (rw c.in-None.is at c.cut_at-rest.ensures.parts),
      refl,
    )

pub returns-in-Ok-clause-attributes : goal.returns-in-Ok-clause-attributes
returns-in-Ok-clause-attributes c =
    let bytes = c.args.bytes.now in
    let trimmed = text_at bytes c.trimmed.result in
    let whole = rw c.in-Some.is at c.cut_at-rest.ensures.parts in
    let first = rw c.text_at.ensures at c.in-Ok.ensures in
    matched_same (line_ref_value bytes) _ _ c.read_named.result
    (line_then (text_at bytes c.args.line) trimmed (text_at bytes c.cut_at-rest.result.0) (text_at bytes c.in-Some.rest)
    (object_of c.in-Ok.object) c.trimmed.ensures.text whole first) (c.read_named.ensures.attributes trimmed)
