-- The number of each result, as in the header.
use Rattle.std.specs.Prelude.{ℕ}
use Rattle.gixp_refspec.specs.declared.parse.Error.{Error as SpecError}
use Rattle.gixp_refspec.specs.declared.parse.Error.TheVariants.{NegativeWithDestination, NegativeObjectHash, NegativePartialName, PatternUnbalanced, PatternUnsupported, InvalidName}
use Rattle.gixp_packetline.specs.declared.packet.PacketError.TheVariants.{HexDecode, DataLengthLimitExceeded, DataIsEmpty, InvalidLineLength}
use Rattle.gixp_records.specs.declared.advertised.AdvertisedEnd.{AdvertisedEnd}
use Rattle.gixp_records.specs.declared.advertised.AdvertisedEnd.TheVariants.{Full as FullAdvertised, Stop as StopAdvertised, Refused as RefusedAdvertised}
use Rattle.gixp_records.specs.declared.advertised.refused.AdvertisedLineRefused.{AdvertisedLineRefused}
use Rattle.gixp_records.specs.declared.advertised.refused.AdvertisedLineRefused.TheVariants.{Id as BadId, Malformed as BadLine, Peeled, Symref}
use Rattle.gixp_records.specs.declared.advertised.refused.AdvertisedRefused.{AdvertisedRefused}
use Rattle.gixp_records.specs.declared.advertised.refused.AdvertisedRefused.TheVariants.{Packet as NoPacket, Line as NoLine, NoCapabilities, VersionTwo, UnknownVersion, Memory}
use Rattle.gixp_records.specs.declared.spec_text.SpecsRefused.{SpecsRefused}
use Rattle.gixp_records.specs.declared.spec_text.SpecsRefused.TheVariants.{Spec as NoSpecs, Memory as NoSpecMemory}
use Rattle.gixp_records.specs.declared.mapped_refs.MapEnd.{MapEnd}
use Rattle.gixp_records.specs.declared.mapped_refs.MapEnd.TheVariants.{Mapped, Conflicts, NoRoom}
use Rattle.gixp_records.specs.declared.mapped_refs.MapRefused.{MapRefused}
use Rattle.gixp_records.specs.declared.mapped_refs.MapRefused.TheVariants.{Place, Spec as NoMapSpec, Memory as NoMapMemory}
use Rattle.gixp_records.specs.declared.line.LineRefused.{LineRefused}
use Rattle.gixp_records.specs.declared.line.LineRefused.TheVariants.{Id, Malformed as MalformedLine, UnknownAttribute, Unborn}
use Rattle.gixp_records.specs.declared.packets.PacketRefused.{PacketRefused}
use Rattle.gixp_records.specs.declared.packets.PacketRefused.TheVariants.{Incomplete, Malformed, Server, Unexpected, UnknownBand}
use Rattle.gixp_records.specs.declared.refs.RefsRefused.{RefsRefused}
use Rattle.gixp_records.specs.declared.refs.RefsRefused.TheVariants.{Packet, Line}
use Rattle.gixp_records.specs.declared.refs.RefsEnd.{RefsEnd}
use Rattle.gixp_records.specs.declared.refs.RefsEnd.TheVariants.{Full, Stop, Refused}

abbrev pub packet_code : PacketRefused → ℕ
packet_code Incomplete = 10
packet_code (Malformed HexDecode) = 11
packet_code (Malformed DataLengthLimitExceeded) = 12
packet_code (Malformed DataIsEmpty) = 13
packet_code (Malformed InvalidLineLength) = 14
packet_code (Server words) = 15
packet_code Unexpected = 16
packet_code (UnknownBand band) = 17

abbrev pub line_code : LineRefused → ℕ
line_code Id = 20
line_code MalformedLine = 21
line_code UnknownAttribute = 22
line_code Unborn = 23

abbrev pub refs_code : RefsRefused → ℕ
refs_code (Packet e) = packet_code e
refs_code (Line e) = line_code e

-- the end of a call that reads refs
abbrev pub end_code : RefsEnd → ℕ
end_code Stop = 0
end_code Full = 1
end_code (Refused e) = refs_code e

abbrev pub advertised_line_code : AdvertisedLineRefused → ℕ
advertised_line_code BadId = 20
advertised_line_code BadLine = 21
advertised_line_code Peeled = 24
advertised_line_code Symref = 25

abbrev pub advertised_code : AdvertisedRefused → ℕ
advertised_code (NoPacket e) = packet_code e
advertised_code (NoLine e) = advertised_line_code e
advertised_code NoCapabilities = 46
advertised_code VersionTwo = 47
advertised_code UnknownVersion = 48
advertised_code Memory = 4

-- the end of a call that reads refs of an advertisement
abbrev pub advertised_end_code : AdvertisedEnd → ℕ
advertised_end_code StopAdvertised = 0
advertised_end_code FullAdvertised = 1
advertised_end_code (RefusedAdvertised e) = advertised_code e

abbrev pub spec_code : SpecError → ℕ
spec_code NegativeWithDestination = 32
spec_code NegativeObjectHash = 33
spec_code NegativePartialName = 34
spec_code PatternUnbalanced = 35
spec_code PatternUnsupported = 36
spec_code InvalidName = 37

-- the error of reading refspecs
abbrev pub specs_code : SpecsRefused → ℕ
specs_code (NoSpecs e) = spec_code e
specs_code NoSpecMemory = 4

-- the result of a call that maps refs
abbrev pub map_end_code : MapEnd → ℕ
map_end_code Mapped = 0
map_end_code Conflicts = 51
map_end_code NoRoom = 2

-- the error of a call that maps refs
abbrev pub map_refused_code : MapRefused → ℕ
map_refused_code Place = 3
map_refused_code (NoMapSpec e) = spec_code e
map_refused_code NoMapMemory = 4
