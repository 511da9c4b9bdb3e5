-- The packet lines that are passed on: the capability advertisement, and then whole responses (gitprotocol-v2,
-- "Capability Advertisement", "Packet-Line Framing"; gitremote-helpers, "stateless-connect").
use Rattle.std.specs.Prelude.{List, [], ◌∷◌}
use Rattle.gixp_packetline.specs.Frames.{Frame, payload, special, End, ended, Frames, no_frames, with_frame}
use Rattle.gixp_packetline.specs.declared.protocol.MessageKind.TheVariants.{Flush, Delimiter, ResponseEnd}

-- a response is packet lines and a flush packet, with a response-end packet directly after it, which isn't passed on;
-- anything else ends the stream
abbrev pub whole_answers : List Frame → End → Frames
whole_answers [] end = no_frames end
whole_answers (payload p ∷ frames) end = with_frame (payload p) (whole_answers frames end)
whole_answers (special Delimiter ∷ frames) end = with_frame (special Delimiter) (whole_answers frames end)
whole_answers (special Flush ∷ special ResponseEnd ∷ frames) end = with_frame (special Flush) (whole_answers frames end)
whole_answers _ end = no_frames ended

-- the advertisement is packet lines and a flush packet; responses follow
abbrev pub whole_stream : List Frame → End → Frames
whole_stream [] end = no_frames end
whole_stream (payload p ∷ frames) end = with_frame (payload p) (whole_stream frames end)
whole_stream (special Delimiter ∷ frames) end = with_frame (special Delimiter) (whole_stream frames end)
whole_stream (special Flush ∷ frames) end = with_frame (special Flush) (whole_answers frames end)
whole_stream _ end = no_frames ended
