use Rattle.gixp_packetline.proofs.RunLemmas.{peeked-takes}
use Rattle.gixp_transport.proofs.advertisement.take_peeked.Goals as goal

pub returns : goal.returns
returns g c = peeked-takes _ _ _ c.next_line.ensures.reads c.requires
