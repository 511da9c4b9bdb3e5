use Rattle.std.proofs.Common.{refl, arith, Ok}
use Rattle.gixp_refs.specs.RefLine.{malformed_v1}
use Rattle.gixp_records.specs.Span.{text_at}
use Rattle.gixp_records.specs.V1RecordLine.{line_in}
use Rattle.gixp_records.proofs.SpanLemmas.{length-text_at}
use Rattle.gixp_records.proofs.AdvertisedLineLemmas.{answered_same, path_none, path_empty, path_some}
use Rattle.gixp_records.proofs.advertised.ref_line.read_trimmed_line.Goals as goal

pub returns-then-path-eq0-clause-value : goal.returns-then-path-eq0-clause-value
returns-then-path-eq0-clause-value c =
    let bytes = c.args.bytes.now in
    let trimmed = text_at bytes c.trimmed.result in
    let path = c.in-Some.path in
    let whole = rw c.in-Some.is at c.cut_at-path.ensures.parts in
    let within = rw c.in-Some.is at c.cut_at-path.ensures.rest in
    let size = length-text_at bytes path.at path.len within in
    let empty = c.if-path-eq0.true in (
      malformed_v1 trimmed,
      path_empty (text_at bytes c.args.line) trimmed (text_at bytes c.cut_at-path.result.0) (text_at bytes path) c.trimmed.ensures.text
          whole (omega arith),
      refl,
    )

pub returns-else-path-eq0-clause-value : goal.returns-else-path-eq0-clause-value
returns-else-path-eq0-clause-value c =
    let bytes = c.args.bytes.now in
    let trimmed = text_at bytes c.trimmed.result in
    let path = c.in-Some.path in
    let whole = rw c.in-Some.is at c.cut_at-path.ensures.parts in
    let within = rw c.in-Some.is at c.cut_at-path.ensures.rest in
    let size = length-text_at bytes path.at path.len within in
    let full = c.if-path-eq0.false in
    answered_same (λ l. Ok (line_in bytes l)) _ _ c.read_path.result
    (path_some (text_at bytes c.args.line) trimmed (text_at bytes c.cut_at-path.result.0) (text_at bytes path) c.trimmed.ensures.text
    whole (λ z. omega arith)) c.read_path.ensures.value

pub returns-in-None-clause-value : goal.returns-in-None-clause-value
returns-in-None-clause-value c =
    let bytes = c.args.bytes.now in
    let trimmed = text_at bytes c.trimmed.result in (
      malformed_v1 trimmed,
      path_none (text_at bytes c.args.line) trimmed (text_at bytes c.cut_at-path.result.0) c.trimmed.ensures.text
          (rw c.in-None.is at c.cut_at-path.ensures.parts),
      refl,
    )
