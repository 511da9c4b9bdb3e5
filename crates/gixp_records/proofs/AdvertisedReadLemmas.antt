-- The end of a call that reads an advertisement.
use Rattle.std.proofs.Common.{ℕ, List, refl, Err}
use Rattle.gixp_capabilities.specs.Capabilities.{capabilities_of_words}
use Rattle.gixp_transport.specs.CapabilityAdvertisement.{advertisement}
use Rattle.gixp_refs.specs.RefAdvertisement.{symref_table}
use Rattle.gixp_records.specs.declared.advertised.AdvertisedEnd.TheVariants.{Refused}
use Rattle.gixp_records.specs.declared.advertised.opening.RefsOpening.{RefsOpening}
use Rattle.gixp_records.specs.declared.advertised.refused.AdvertisedRefused.{AdvertisedRefused}
use Rattle.gixp_records.specs.declared.advertised.refused.AdvertisedRefused.TheVariants.{Packet, Line, NoCapabilities, VersionTwo, UnknownVersion, Memory}
use Rattle.gixp_records.specs.declared.refs.RefRecord.{RefRecord}
use Rattle.gixp_records.specs.Span.{text_at}
use Rattle.gixp_records.specs.Packets.{pieces_at}
use Rattle.gixp_records.specs.RefsOpening.{IsOpening, AnswersSymrefs}
use Rattle.gixp_records.specs.AdvertisedRecords.{ReadsAdvertised, no_memory, unnamed}

-- the symrefs have an error
pub reads_no_symrefs : (bytes : List ℕ) (from : ℕ) (old : List RefRecord) (o : RefsOpening) (e : AdvertisedRefused)
    → IsOpening bytes (advertisement (pieces_at bytes 0)) o
    → AnswersSymrefs bytes (symref_table (capabilities_of_words (text_at bytes o.capabilities))) (Err e)
    → ReadsAdvertised bytes from old (record { count = 0; next = from; end = Refused e }) old
reads_no_symrefs bytes from old o (Packet p) h a = absurd a
reads_no_symrefs bytes from old o (Line e) h a = unnamed o h e a (refl, refl)
reads_no_symrefs bytes from old o NoCapabilities h a = absurd a
reads_no_symrefs bytes from old o VersionTwo h a = absurd a
reads_no_symrefs bytes from old o UnknownVersion h a = absurd a
reads_no_symrefs bytes from old o Memory h a = no_memory (refl, refl)
