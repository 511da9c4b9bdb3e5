use Rattle.std.proofs.Common.{arith, ap, ◌∙◌, drop}
use Rattle.gixp_packetline.specs.declared.packet.Head.TheVariants.{Partial, Bad, Special, Data}
use Rattle.gixp_packetline.proofs.PacketLineLemmas.{by_head, fits_by, payload_size, rest_is}
use Rattle.gixp_packetline.proofs.packet_line.split_packet_line.Goals as goal

pub returns-in-Partial : goal.returns-in-Partial
returns-in-Partial c = by_head _ Partial c.in-Partial.ensures

pub returns-in-Bad : goal.returns-in-Bad
returns-in-Bad c = by_head _ (Bad c.in-Bad.e) c.in-Bad.ensures

pub returns-in-Special : goal.returns-in-Special
returns-in-Special c =
    let step = by_head c.args.bytes.now (Special c.in-Special.kind) c.in-Special.ensures in
    let fits = fits_by c.args.bytes.now (Special c.in-Special.kind) c.in-Special.ensures in
    (rw c.split_at.ensures.back step, omega (arith, c.split_at.ensures.back_len, fits), c.split_at.ensures.back)

pub returns-in-Data : goal.returns-in-Data
returns-in-Data c =
    let step = by_head c.args.bytes.now (Data c.in-Data.size) c.in-Data.ensures in
    let fits = fits_by c.args.bytes.now (Data c.in-Data.size) c.in-Data.ensures in
    let text = c.split_at-in-Data-2.ensures.back ∙ ap (drop 4) c.split_at-in-Data.ensures.front in
    let size = payload_size c.args.bytes.now _ c.in-Data.size (omega (arith, fits.0)) (omega (arith, fits.1)) text in (
      rw (c.split_at-in-Data-2.ensures.back, c.split_at-in-Data.ensures.front, c.split_at-in-Data.ensures.back) step,
      omega (
        arith,
        c.split_at-in-Data.ensures.back_len,
        fits,
      ),
      rest_is c.args.bytes.now _ c.in-Data.size _ size c.split_at-in-Data.ensures.back,
    )
