-- The features that a client requests of those that a server offers (gitprotocol-v2, "Capability Advertisement",
-- "Command Request"; gitprotocol-capabilities).
use Rattle.std.specs.Prelude.{◌≡◌, ℕ, Bool, false, not, ◌&&◌, ◌||◌, ⊤, if◌then◌else◌, List, [], Option, Some, None, Result, Ok, Err, map, filter, find, nat_eq, codes, unwrap_or}
use Rattle.std.specs.List.{list_any, starts_with}
use Rattle.std.specs.Str.{bytes_eq}
use Rattle.bstr.specs.Owned.{bstring_bytes}
use Rattle.gixp_packetline.specs.declared.protocol.Protocol.{Protocol}
use Rattle.gixp_capabilities.specs.Capabilities.{CapabilityValue, first_named, has_named, supports_word}
use Rattle.gixp_requests.specs.declared.command.Command.{Command}
use Rattle.gixp_requests.specs.declared.command.Command.TheVariants.{LsRefs, Fetch}
use Rattle.gixp_requests.specs.declared.command.validate_argument_prefixes.Error.{Error}
use Rattle.gixp_requests.specs.declared.command.validate_argument_prefixes.Error.TheVariants.{UnsupportedArgument, UnsupportedCapability, Memory}
use Rattle.gixp_requests.specs.Arguments.{is_v2}
use Rattle.gixp_requests.specs.Command.{WordEntry, TableValue, command_name}
use Rattle.gixp_requests.specs.Feature.{FeatureValue}

-- whether the server has the better capability that excludes an entry
abbrev pub has_other : List CapabilityValue → Option (List ℕ) → Bool
has_other capabilities None = false
has_other capabilities (Some name) = has_named name capabilities

-- an entry is requested if the server has its capability, and not the one that excludes it
abbrev pub is_offered : List CapabilityValue → WordEntry → Bool
is_offered capabilities e = has_named e.word capabilities && not (has_other capabilities e.other)

-- whether the value of a capability has this word
abbrev pub has_word : List ℕ → Option CapabilityValue → Bool
has_word word None = false
has_word word (Some c) = unwrap_or (supports_word word c.value) false

-- whether the value of a command's capability has this feature, under version 2
abbrev pub supports : List CapabilityValue → Command → List ℕ → Bool
supports capabilities command word = has_word word (first_named (command_name command) capabilities)

abbrev pub v2_words : TableValue → Command → List (List ℕ)
v2_words table LsRefs = table.v2_ls_refs
v2_words table Fetch = table.v2_fetch

-- the features of a command under versions 0 and 1, where only `fetch` exists
abbrev pub v1_names : TableValue → Command → List CapabilityValue → List (List ℕ)
v1_names table LsRefs capabilities = []
v1_names table Fetch capabilities = map (λ (e : WordEntry). e.word) (filter (is_offered capabilities) table.v1_fetch)

abbrev pub default_names : TableValue → Command → Protocol → List CapabilityValue → List (List ℕ)
default_names table command version capabilities =
    if is_v2 version then filter (supports capabilities command) (v2_words table command) else v1_names table command capabilities

abbrev pub plain_feature : List ℕ → FeatureValue
plain_feature name = record { name = name; value = None }

abbrev pub default_features : TableValue → Command → Protocol → List CapabilityValue → List FeatureValue
default_features table command version capabilities = map plain_feature (default_names table command version capabilities)

-- the words that an argument of a command may begin with
abbrev pub prefixes_of : TableValue → Command → List (List ℕ)
prefixes_of table LsRefs = table.ls_refs_prefixes
prefixes_of table Fetch = table.fetch_prefixes

abbrev pub begins_with_any : List (List ℕ) → List ℕ → Bool
begins_with_any prefixes argument = list_any (λ prefix. starts_with nat_eq argument prefix) prefixes

abbrev pub bad_argument : List (List ℕ) → List ℕ → Bool
bad_argument prefixes argument = not (begins_with_any prefixes argument)

-- a feature may be requested if it is `agent`, a capability, or under version 2 a word of the command's capability
abbrev pub may_ask : Command → Protocol → List CapabilityValue → List ℕ → Bool
may_ask command version capabilities name =
    bytes_eq name (codes "agent") || (has_named name capabilities || (is_v2 version && supports capabilities command name))

abbrev pub bad_feature : Command → Protocol → List CapabilityValue → FeatureValue → Bool
bad_feature command version capabilities f = not (may_ask command version capabilities f.name)

-- why a request is invalid, as contracts compare it
pub data ValidationRefusal : Type 0 where
  bad_argument_of : (command argument : List ℕ) → ValidationRefusal
  bad_feature_of : (command feature : List ℕ) → ValidationRefusal
  no_memory_for : ValidationRefusal

abbrev pub validation_refusal : Error → ValidationRefusal
validation_refusal (UnsupportedArgument command argument) = bad_argument_of command.now (bstring_bytes argument)
validation_refusal (UnsupportedCapability command feature) = bad_feature_of command.now feature.now
validation_refusal Memory = no_memory_for

-- the error of the first feature that may not be requested
abbrev pub feature_refusal : Command → Option FeatureValue → Option ValidationRefusal
feature_refusal command None = None
feature_refusal command (Some f) = Some (bad_feature_of (command_name command) f.name)

-- the error of the first invalid argument, otherwise that of the first such feature
abbrev pub refusal_from : Command → Option (List ℕ) → Option FeatureValue → Option ValidationRefusal
refusal_from command (Some argument) f = Some (bad_argument_of (command_name command) argument)
refusal_from command None f = feature_refusal command f

abbrev pub validation : TableValue → Command → Protocol → List CapabilityValue → List (List ℕ) → List FeatureValue
    → Option ValidationRefusal
validation table command version capabilities arguments features =
    refusal_from command (find (bad_argument (prefixes_of table command)) arguments)
    (find (bad_feature command version capabilities) features)

-- only the copy of an argument allocates
abbrev pub IsRefusedBy : ValidationRefusal → Error → Type 0
IsRefusedBy (bad_argument_of command argument) Memory = ⊤
IsRefusedBy refusal e = validation_refusal e ≡ refusal

-- the call returns this error, if there is one
abbrev pub AnswersRefusal : Option ValidationRefusal → Result (Unit {0}) Error → Type 0
AnswersRefusal None (Ok t) = ⊤
AnswersRefusal None (Err e) = ⊥
AnswersRefusal (Some refusal) (Ok t) = ⊥
AnswersRefusal (Some refusal) (Err e) = IsRefusedBy refusal e
