use Rattle.gixp_transport.proofs.AdvertisementLemmas.{peeked-place, reads-cut, fails-cut, found-is}
use Rattle.gixp_transport.proofs.advertisement.cut_ref_line.Goals as goal

pub returns-in-Ok : goal.returns-in-Ok
returns-in-Ok g c =
    let is = found-is _ _ (rw c.line.ensures at c.in-Ok.ensures) in
    rw c.shorten_line.ensures (reads-cut g.R.Read.remaining c.args.packets.now c.args.version _ _
    (peeked-place _ c.requires.peeked) c.requires.version is)

pub returns-in-Err : goal.returns-in-Err
returns-in-Err g c = fails-cut g.R.Read.remaining c.args.packets.now c.args.version c.in-Err.e
    (peeked-place _ c.requires.peeked) c.requires.version (rw c.line.ensures at c.in-Err.ensures)
