-- Why a plan isn't made: which step failed, and the name of the variant of its own error.
use Rattle.std.specs.Prelude.{ℕ, zero, suc, ◌≡◌, ◌⊎◌, List, codes, Result, Ok, Err}
use Rattle.std.specs.declared.io.Error.{Error as IoError}
use Rattle.std.specs.declared.io.ErrorKind.{ErrorKind}
use Rattle.std.specs.declared.io.ErrorKind.TheVariants.{Interrupted, OutOfMemory}
use Rattle.std.specs.IoError.{error_kind}
use Rattle.gixp_refspec.specs.declared.parse.Error.{Error as SpecError}
use Rattle.gixp_refspec.specs.declared.parse.Error.TheVariants.{NegativeWithDestination, NegativeObjectHash, NegativePartialName, PatternUnbalanced, PatternUnsupported, InvalidName}
use Rattle.gixp_handshake.specs.declared.handshake.error.Error.{Error as HandshakeError}
use Rattle.gixp_handshake.specs.declared.handshake.error.Error.TheVariants as handshake
use Rattle.gixp_refmap.specs.declared.refmap.init.Error.{Error as MapError}
use Rattle.gixp_refmap.specs.declared.refmap.init.Error.TheVariants as map
use Rattle.gixp_fetch.specs.declared.error.Error.{Error as FetchError}
use Rattle.gixp_fetch.specs.declared.error.Error.TheVariants as fetch
use Rattle.gixp_planner.specs.declared.error.PlanError.{PlanError}

pub record PlanRefusal : Type 0 where
  pub step : List ℕ
  pub variant : List ℕ

abbrev pub refusal : List ℕ → List ℕ → PlanRefusal
refusal step variant = record { step = step; variant = variant }

abbrev pub refusal_of : PlanError → PlanRefusal
refusal_of e = refusal e.step.now e.variant.now

-- an allocation failed in a step
abbrev pub IsPlanMemory : List ℕ → PlanError → Type 0
IsPlanMemory step e = refusal_of e ≡ refusal step (codes "Memory")

-- a write failed, or an allocation for the text
abbrev pub IsUnwritten : PlanError → Type 0
IsUnwritten e = (refusal_of e ≡ refusal (codes "file") (codes "Io")) ⊎ IsPlanMemory (codes "file") e

-- a file can't be read, or an allocation failed for its bytes
abbrev pub FileIsUnread : PlanError → Type 0
FileIsUnread e = (refusal_of e ≡ refusal (codes "file") (codes "Io")) ⊎ IsPlanMemory (codes "file") e

-- a line is no id, or an allocation failed for the ids
abbrev pub IsNoHave : PlanError → Type 0
IsNoHave e = (refusal_of e ≡ refusal (codes "have") (codes "Decode")) ⊎ IsPlanMemory (codes "have") e

-- the error of a failed read or write of a file
abbrev pub device_refusal : ErrorKind → PlanRefusal
device_refusal OutOfMemory = refusal (codes "file") (codes "Memory")
device_refusal _ = refusal (codes "file") (codes "Io")

-- the result of a write as plain data
abbrev pub amount_value : Result ℕ PlanError → Result ℕ PlanRefusal
amount_value (Ok n) = Ok n
amount_value (Err e) = Err (refusal_of e)

-- the result of a failed write: it took nothing where it was interrupted, and is an error else
abbrev pub failed_amount : ErrorKind → Result ℕ PlanRefusal
failed_amount Interrupted = Ok 0
failed_amount kind = Err (device_refusal kind)

-- how many bytes a write took; a write that took none is an error
abbrev pub written_amount : Result ℕ IoError → Result ℕ PlanRefusal
written_amount (Ok zero) = Err (refusal (codes "file") (codes "Io"))
written_amount (Ok (suc n)) = Ok (suc n)
written_amount (Err e) = failed_amount (error_kind e)

-- a flush is an error exactly where it failed, by its kind
abbrev pub AnswersWrite : Result (Unit {0}) IoError → Result (Unit {0}) PlanError → Type 0
AnswersWrite (Ok x) r = r ≡ Ok tt
AnswersWrite (Err e) (Ok x) = ⊥
AnswersWrite (Err e) (Err refused) = refusal_of refused ≡ device_refusal (error_kind e)

abbrev pub spec_name : SpecError → List ℕ
spec_name NegativeWithDestination = codes "NegativeWithDestination"
spec_name NegativeObjectHash = codes "NegativeObjectHash"
spec_name NegativePartialName = codes "NegativePartialName"
spec_name PatternUnbalanced = codes "PatternUnbalanced"
spec_name PatternUnsupported = codes "PatternUnsupported"
spec_name InvalidName = codes "InvalidName"

abbrev pub handshake_name : HandshakeError → List ℕ
handshake_name (handshake.Credentials e) = codes "Credentials"
handshake_name handshake.EmptyCredentials = codes "EmptyCredentials"
handshake_name (handshake.InvalidCredentials url) = codes "InvalidCredentials"
handshake_name (handshake.Transport e) = codes "Transport"
handshake_name (handshake.TransportProtocolPolicyViolation version) = codes "TransportProtocolPolicyViolation"
handshake_name (handshake.ParseRefs e) = codes "ParseRefs"
handshake_name handshake.Memory = codes "Memory"

abbrev pub map_name : MapError → List ℕ
map_name (map.UnknownObjectFormat format) = codes "UnknownObjectFormat"
map_name (map.MappingValidation e) = codes "MappingValidation"
map_name (map.ListRefs e) = codes "ListRefs"
map_name map.Memory = codes "Memory"

abbrev pub fetch_name : {A X : Type 0} → FetchError A X → List ℕ
fetch_name (fetch.FetchResponse e) = codes "FetchResponse"
fetch_name (fetch.Negotiate e) = codes "Negotiate"
fetch_name (fetch.Client e) = codes "Client"
fetch_name (fetch.MissingServerFeature feature description) = codes "MissingServerFeature"
fetch_name (fetch.WriteShallowFile e) = codes "WriteShallowFile"
fetch_name (fetch.ReadShallowFile e) = codes "ReadShallowFile"
fetch_name (fetch.LockShallowFile e) = codes "LockShallowFile"
fetch_name fetch.RejectShallowRemote = codes "RejectShallowRemote"
fetch_name (fetch.ConsumePack e) = codes "ConsumePack"
fetch_name (fetch.ReadRemainingBytes e) = codes "ReadRemainingBytes"
fetch_name fetch.Memory = codes "Memory"
