use Rattle.std.proofs.Common.{Ok}
use Rattle.std.specs.Option.{option_map}
use Rattle.gixp_records.specs.RecordLine.{attributes_in}
use Rattle.gixp_records.specs.Span.{text_at}
use Rattle.gixp_records.proofs.RecordLineLemmas.{matched_same, attributes_err, attributes_two}
use Rattle.gixp_records.proofs.line.read_attributes.Goals as goal

pub returns-in-Err-clause-attributes : goal.returns-in-Err-clause-attributes
returns-in-Err-clause-attributes c =
    let bytes = c.args.bytes.now in
    λ line.
    rw c.in-Some.is (attributes_err line (text_at bytes c.in-Some.rest) (text_at bytes c.cut_at-fourth.result.0)
    (option_map (text_at bytes) c.cut_at-fourth.result.1) c.in-Err.e c.cut_at-fourth.ensures.parts (c.in-Err.ensures.attributes line))

pub returns-in-Some-fourth-clause-attributes : goal.returns-in-Some-fourth-clause-attributes
returns-in-Some-fourth-clause-attributes c =
    let bytes = c.args.bytes.now in
    let whole = rw c.in-Some-fourth.is at c.cut_at-fourth.ensures.parts in
    λ line.
    rw c.in-Some.is (matched_same (λ attributes. Ok (attributes_in bytes attributes)) _ _ c.read_attribute-in-Some-fourth.result
    (attributes_two line (text_at bytes c.in-Some.rest) (text_at bytes c.cut_at-fourth.result.0) (text_at bytes c.in-Some-fourth.fourth)
    (attributes_in bytes c.in-Ok.first) whole (c.in-Ok.ensures.attributes line))
    (c.read_attribute-in-Some-fourth.ensures.attributes line))
