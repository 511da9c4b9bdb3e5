-- The packet lines of a stream without response-end packets (gitprotocol-v2, "Packet-Line Framing").
use Rattle.std.specs.Prelude.{List, [], ◌∷◌}
use Rattle.gixp_packetline.specs.Frames.{Frame, payload, special}
use Rattle.gixp_packetline.specs.declared.protocol.MessageKind.TheVariants.{Flush, Delimiter, ResponseEnd, Text}

abbrev pub without_response_ends : List Frame → List Frame
without_response_ends [] = []
without_response_ends (payload p ∷ frames) = payload p ∷ without_response_ends frames
without_response_ends (special Flush ∷ frames) = special Flush ∷ without_response_ends frames
without_response_ends (special Delimiter ∷ frames) = special Delimiter ∷ without_response_ends frames
without_response_ends (special ResponseEnd ∷ frames) = without_response_ends frames
without_response_ends (special Text ∷ frames) = special Text ∷ without_response_ends frames
