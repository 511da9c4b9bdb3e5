use Rattle.gixp_packetline.specs.declared.protocol.Protocol.TheVariants.{V2}
use Rattle.gixp_records.proofs.white_space.list_loses_white_space.Goals as goal

pub returns : goal.returns
returns c = c.lines_lose_white_space.ensures V2
