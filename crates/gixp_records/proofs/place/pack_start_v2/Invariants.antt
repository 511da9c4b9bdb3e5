use Rattle.std.proofs.Common.{◌-◌, length, List}
use Rattle.std.specs.Prelude.{All}
use Rattle.gixp_packetline.specs.Pieces.{Piece}
use Rattle.gixp_records.specs.Place.{ArePiecesTo, IsNoHeader}
use Rattle.gixp_records.proofs.place.pack_start_v2.Given as goal

abbrev pub invariant-packets : goal.invariant-packets
invariant-packets l = (taken : List Piece) × ArePiecesTo l.bytes l.fn.from l.at taken × All IsNoHeader taken

abbrev pub decreases-packets : goal.decreases-packets
decreases-packets l = length l.bytes - l.at
