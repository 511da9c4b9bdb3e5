-- The names of errors, as the program prints them on standard error.
use Rattle.std.specs.Prelude.{ℕ, List, codes}
use Rattle.gixp_refs.specs.RefLine.{RefsRefusal, io_failed, bad_frame, bad_id, malformed_symref, malformed_v1, malformed_v2, unknown_attribute, invariant, upload_pack, by_reader, no_memory}
use Rattle.gixp_refs.specs.ParseError.{parse_refusal}
use Rattle.gixp_planner.specs.declared.listing.ListError.{ListError}
use Rattle.gixp_planner.specs.declared.listing.ListError.TheVariants.{Parse, Io}

-- the name of the variant
abbrev pub error_name : RefsRefusal → List ℕ
error_name (io_failed kind) = codes "Io"
error_name (bad_frame e) = codes "DecodePacketline"
error_name (bad_id e) = codes "Id"
error_name (malformed_symref symref) = codes "MalformedSymref"
error_name (malformed_v1 line) = codes "MalformedV1RefLine"
error_name (malformed_v2 line) = codes "MalformedV2RefLine"
error_name (unknown_attribute attribute line) = codes "UnknownAttribute"
error_name (invariant message) = codes "InvariantViolation"
error_name (upload_pack message) = codes "UploadPack"
error_name (by_reader e) = codes "Reader"
error_name no_memory = codes "Memory"

-- for a refused answer the name of the error in it
abbrev pub list_error_name : ListError → List ℕ
list_error_name (Parse e) = error_name (parse_refusal e)
list_error_name (Io kind) = codes "Io"
