-- The state of a reader of lines over a borrowed reader.
use Rattle.std.specs.Prelude.{ℕ, List, Option}
use Rattle.std.specs.Borrow.{MutBor}
use Rattle.gixp_packetline.specs.declared.line_reader.LineReader.{LineReader}
use Rattle.gixp_packetline.specs.Reading.{Reading}
use Rattle.gixp_packetline.specs.Packets.{packets_reading}

abbrev pub line_reader_reading : {R : Type 0} → (R → Option (List ℕ)) → LineReader R → Reading
line_reader_reading {R} remaining r = packets_reading (λ (b : MutBor R). remaining b.now) r.packets
