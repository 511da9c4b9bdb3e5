use Rattle.std.proofs.Common.{◌≡◌, ℕ, take, sym, ap, ◌∙◌}
use Rattle.std.proofs.lemmas.List.{take_min}
use Rattle.gixp_records.specs.Span.{text_at}
use Rattle.gixp_records.specs.Packets.{pieces_at, refusal_in}
use Rattle.gixp_records.specs.ListedLine.{loses_white_space}
use Rattle.gixp_records.proofs.LostSpaceLemmas.{cut-loses-here, cut-loses-later, cut-loses-none, cut-loses-refused}
use Rattle.gixp_records.proofs.advertised.refs_lose_white_space.Goals as goal

pub returns-then-loses_white_space : goal.returns-then-loses_white_space
returns-then-loses_white_space c =
    let bytes = c.args.bytes.now in
    let o = c.args.opening.now in
    let text = c.text_at-text.result.now in
    let received = rw c.in-Ok-Line.field-0-is at c.in-Ok-Line.ensures in
    let front : take o.cut (text_at bytes c.in-Ok-Line.line) ≡ take c.min.result text =
    ap (take o.cut) (sym c.text_at-text.ensures) ∙ sym (take_min o.cut text) ∙ ap (λ (k : ℕ). take k text) (sym c.min.ensures) in
    sym (cut-loses-here o.version o.cut (pieces_at bytes o.first) (pieces_at bytes c.in-Ok-Line.next) (text_at bytes c.in-Ok-Line.line) received.0
    (ap loses_white_space front ∙ sym c.loses_white_space.ensures ∙ c.if-loses_white_space.true))

pub returns-else-loses_white_space : goal.returns-else-loses_white_space
returns-else-loses_white_space c =
    let bytes = c.args.bytes.now in
    let o = c.args.opening.now in
    let text = c.text_at-text.result.now in
    let received = rw c.in-Ok-Line.field-0-is at c.in-Ok-Line.ensures in
    let front : take o.cut (text_at bytes c.in-Ok-Line.line) ≡ take c.min.result text =
    ap (take o.cut) (sym c.text_at-text.ensures) ∙ sym (take_min o.cut text) ∙ ap (λ (k : ℕ). take k text) (sym c.min.ensures) in
    c.lines_lose_white_space.ensures o.version
    ∙ sym (cut-loses-later o.version o.cut (pieces_at bytes o.first) (pieces_at bytes c.in-Ok-Line.next) (text_at bytes c.in-Ok-Line.line)
    received.0 (ap loses_white_space front ∙ sym c.loses_white_space.ensures ∙ c.if-loses_white_space.false))

pub returns-in-Ok-Mark : goal.returns-in-Ok-Mark
returns-in-Ok-Mark c =
    let bytes = c.args.bytes.now in
    let o = c.args.opening.now in
    let received = rw c.in-Ok-Mark.field-0-is at c.in-Ok-Mark.ensures in
    sym (cut-loses-none o.version o.cut (pieces_at bytes o.first) (pieces_at bytes c.in-Ok-Mark.field-0-1) c.in-Ok-Mark.field-0-0 received.0)

pub returns-in-Err : goal.returns-in-Err
returns-in-Err c =
    let bytes = c.args.bytes.now in
    let o = c.args.opening.now in
    sym (cut-loses-refused o.version o.cut (pieces_at bytes o.first) (refusal_in bytes c.in-Err.field-0) c.in-Err.ensures.0)
