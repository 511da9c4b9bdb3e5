use Rattle.std.proofs.Common.{drop, sym, ap, ◌∙◌}
use Rattle.std.specs.Io.BufRead.{strip_last}
use Rattle.gixp_records.proofs.PacketLemmas.{placed, line_next, server_next}
use Rattle.gixp_records.proofs.packets.packet_of.Goals as goal

pub returns-then-is_error : goal.returns-then-is_error
returns-then-is_error c =
    let bytes = c.args.bytes.now in
    let text = c.in-Data.text.now in
    let front = rw c.in-Data.is at c.requires in
    let stands = (placed bytes c.args.at text c.args.rest.now front).stands in
    server_next bytes c.args.at text c.args.rest.now c.without_line_end-words.result front (sym c.is_error.ensures ∙ c.if-is_error.true)
    (c.without_line_end-words.ensures.text ∙ ap (strip_last 10) (c.following.ensures.text ∙ ap (drop 4) stands))
    c.without_line_end-words.ensures.within

pub returns-else-is_error : goal.returns-else-is_error
returns-else-is_error c =
    let front = rw c.in-Data.is at c.requires in
    line_next c.args.bytes.now c.args.at c.in-Data.text.now c.args.rest.now front (sym c.is_error.ensures ∙ c.if-is_error.false)
