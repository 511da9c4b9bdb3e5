-- The kind of the packet line that a message is written as (gitprotocol-common, "pkt-line Format").
use Rattle.gixp_packetline.specs.declared.packet.Frame.{Frame}
use Rattle.gixp_packetline.specs.declared.packet.Frame.TheVariants.{Data, Flush as FlushFrame, Delimiter as DelimiterFrame, ResponseEnd as ResponseEndFrame}
use Rattle.gixp_packetline.specs.declared.protocol.MessageKind.{MessageKind}
use Rattle.gixp_packetline.specs.declared.protocol.MessageKind.TheVariants.{Flush, Delimiter, ResponseEnd, Text}

-- a text is written as a data packet, each other message as the packet of its name
abbrev pub kind_of : MessageKind → Frame
kind_of Flush = FlushFrame
kind_of Delimiter = DelimiterFrame
kind_of ResponseEnd = ResponseEndFrame
kind_of Text = Data
