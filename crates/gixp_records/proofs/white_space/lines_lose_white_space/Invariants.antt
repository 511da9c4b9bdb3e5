use Rattle.std.proofs.Common.{◌≡◌, ◌-◌, ◌≤◌, length}
use Rattle.gixp_packetline.specs.declared.protocol.Protocol.{Protocol}
use Rattle.gixp_packetline.specs.Lines.{lines_of}
use Rattle.gixp_records.specs.Packets.{pieces_at}
use Rattle.gixp_records.specs.ListedLine.{lines_lose_white_space}
use Rattle.gixp_records.proofs.white_space.lines_lose_white_space.Given as goal

-- no line so far loses white space
abbrev pub invariant-lines : goal.invariant-lines
invariant-lines l = record {
  same : (version : Protocol) → lines_lose_white_space (lines_of version (pieces_at l.bytes l.fn.from))
      ≡ lines_lose_white_space (lines_of version (pieces_at l.bytes l.at));
  within : l.at ≤ length l.bytes;
}

abbrev pub decreases-lines : goal.decreases-lines
decreases-lines l = length l.bytes - l.at
