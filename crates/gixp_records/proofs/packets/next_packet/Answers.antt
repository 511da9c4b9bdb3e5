use Rattle.std.proofs.Common.{drop}
use Rattle.std.proofs.lemmas.List.{take_rest}
use Rattle.gixp_packetline.specs.PacketLine.{frame_of}
use Rattle.gixp_records.proofs.PacketLemmas.{has_front}
use Rattle.gixp_records.proofs.packets.next_packet.Goals as goal

pub packet_of-requires : goal.packet_of-requires
packet_of-requires c =
    let bytes = c.args.bytes.now in
    let at = c.args.at in
    let split = rw c.in-Ok-Some.field-0-is at c.in-Ok-Some.ensures in
    has_front bytes at (frame_of c.in-Ok-Some.line) c.in-Ok-Some.rest.now c.requires (c.frames_are_grammar.ensures (drop at bytes))
    (rw (take_rest bytes at) at split.0) (rw (take_rest bytes at) at split.2)
