use Rattle.std.proofs.Common.{refl, arith}
use Rattle.std.specs.Option.{option_map}
use Rattle.gixp_refs.specs.ParseError.{object_of}
use Rattle.gixp_refs.specs.RefLine.{malformed_v2}
use Rattle.gixp_records.specs.RecordLine.{attributes_in}
use Rattle.gixp_records.specs.Span.{text_at}
use Rattle.gixp_records.proofs.SpanLemmas.{length-text_at}
use Rattle.gixp_records.proofs.RecordLineLemmas.{named_empty, named_err, named_then}
use Rattle.gixp_records.proofs.line.read_named.Goals as goal

pub returns-then-name-eq0-clause-attributes : goal.returns-then-name-eq0-clause-attributes
returns-then-name-eq0-clause-attributes c =
    let bytes = c.args.bytes.now in
    let name = c.cut_at-rest.result.0 in
    let some = length-text_at bytes name.at name.len c.cut_at-rest.ensures.first in
    let empty = c.if-name-eq0.true in
    λ line. (
      malformed_v2 line,
      named_empty line (text_at bytes c.args.rest) (text_at bytes name) (object_of c.args.object)
          (option_map (text_at bytes) c.cut_at-rest.result.1) c.cut_at-rest.ensures.parts (omega arith),
      refl,
    )

pub returns-in-Ok-clause-attributes : goal.returns-in-Ok-clause-attributes
returns-in-Ok-clause-attributes c =
    let bytes = c.args.bytes.now in
    let name = c.cut_at-rest.result.0 in
    let some = length-text_at bytes name.at name.len c.cut_at-rest.ensures.first in
    let full = c.if-name-eq0.false in
    λ line.
    named_then line (text_at bytes c.args.rest) (text_at bytes name) (object_of c.args.object)
    (option_map (text_at bytes) c.cut_at-rest.result.1) (attributes_in bytes c.in-Ok.attributes) c.cut_at-rest.ensures.parts (λ z. omega arith)
    (c.in-Ok.ensures.attributes line)

pub returns-in-Err-clause-attributes : goal.returns-in-Err-clause-attributes
returns-in-Err-clause-attributes c =
    let bytes = c.args.bytes.now in
    let name = c.cut_at-rest.result.0 in
    let some = length-text_at bytes name.at name.len c.cut_at-rest.ensures.first in
    let full = c.if-name-eq0.false in
    λ line.
    named_err line (text_at bytes c.args.rest) (text_at bytes name) (object_of c.args.object)
    (option_map (text_at bytes) c.cut_at-rest.result.1) c.in-Err.e c.cut_at-rest.ensures.parts (λ z. omega arith)
    (c.in-Err.ensures.attributes line)
