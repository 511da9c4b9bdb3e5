use Rattle.std.proofs.Common.{◌++◌, [], ◌∷◌, sym, ap, ◌∙◌}
use Rattle.std.proofs.lemmas.List.Elements.{All-push}
use Rattle.gixp_packetline.specs.Pieces.{line, mark}
use Rattle.gixp_records.specs.Place.{precedes_pack, PrecedesPack}
use Rattle.gixp_records.specs.Span.{text_at}
use Rattle.gixp_records.proofs.PlaceLemmas.{pieces_more}
use Rattle.gixp_records.proofs.place.pack_start_v0.Goals as goal

pub packets-preserved-in-Ok-Line : goal.packets-preserved-in-Ok-Line
packets-preserved-in-Ok-Line c =
    let bytes = c.args.bytes.now in
    let so = c.packets.invariant in
    let text = text_at bytes c.in-Ok-Line.payload in
    let received = rw c.in-Ok-Line.field-0-is at c.in-Ok-Line.ensures in (
      so.0 ++ line text ∷ [],
      pieces_more bytes c.args.from c.packets.at c.in-Ok-Line.next so.0 (line text) so.1 received.0 received.3,
      All-push PrecedesPack so.0 (line text) so.2 (ap precedes_pack (sym c.text_at.ensures) ∙ sym c.precedes_pack.ensures ∙ c.if-not-precedes_pack.false),
    )

pub packets-preserved : goal.packets-preserved
packets-preserved c =
    let bytes = c.args.bytes.now in
    let so = c.packets.invariant in
    let kind = c.in-Ok-Mark.field-0-0 in
    let received = rw c.in-Ok-Mark.field-0-is at c.in-Ok-Mark.ensures in (
      so.0 ++ mark kind ∷ [],
      pieces_more bytes c.args.from c.packets.at c.in-Ok-Mark.next so.0 (mark kind) so.1 received.0 received.1,
      All-push PrecedesPack so.0 (mark kind) so.2 tt,
    )
