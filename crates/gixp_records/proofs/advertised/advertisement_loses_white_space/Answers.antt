use Rattle.std.proofs.Common.{sym, ap, ◌∙◌}
use Rattle.gixp_packetline.specs.Pieces.{stream_pieces}
use Rattle.gixp_transport.specs.CapabilityAdvertisement.{advertisement}
use Rattle.gixp_records.specs.ListedLine.{refs_lose_white_space}
use Rattle.gixp_records.proofs.LostSpaceLemmas.{opening-loses, unopened-loses}
use Rattle.gixp_records.proofs.advertised.advertisement_loses_white_space.Goals as goal

pub returns-in-Ok-Refs : goal.returns-in-Ok-Refs
returns-in-Ok-Refs c =
    let bytes = c.args.bytes.now in
    let received = rw c.in-Ok-Refs.field-0-is at c.in-Ok-Refs.ensures in
    c.refs_lose_white_space.ensures
    ∙ sym (opening-loses bytes (advertisement (stream_pieces bytes)) c.in-Ok-Refs.opening received)

pub returns-in-Ok-Empty : goal.returns-in-Ok-Empty
returns-in-Ok-Empty c =
    let received = rw c.in-Ok-Empty.field-0-is at c.in-Ok-Empty.ensures in
    sym (ap refs_lose_white_space received.2)

pub returns-in-Err : goal.returns-in-Err
returns-in-Err c =
    let bytes = c.args.bytes.now in
    sym (unopened-loses bytes (advertisement (stream_pieces bytes)) c.in-Err.field-0 c.in-Err.ensures)
