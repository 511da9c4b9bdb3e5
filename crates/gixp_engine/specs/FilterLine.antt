-- The filter in the first request of a fetch (gitprotocol-v2, "fetch"; git-rev-list, "--filter").
use Rattle.std.specs.Prelude.{◌≡◌, ⊤, true, false, if◌then◌else◌, Bool, Option, Some, None, codes, string_bytes, String, Result, Ok, Err}
use Rattle.std.specs.declared.alloc.Global.{Global}
use Rattle.gixp_requests.specs.Arguments.{ArgumentsValue, can_use, asks_filter}
use Rattle.gixp_requests.specs.Feature.{has_feature}
use Rattle.gixp_requests.specs.Offers.{default_features}
use Rattle.gixp_requests.specs.declared.command.Command.TheVariants.{Fetch}
use Rattle.gixp_handshake.specs.declared.handshake.read.Handshake.{Handshake}
use Rattle.gixp_engine.specs.EngineTable.{engine_table}
use Rattle.gixp_engine.specs.declared.error.EngineError.{EngineError}
use Rattle.gixp_engine.specs.declared.error.EngineError.TheVariants.{NoFilters, Memory}

-- the arguments with the line of a filter, if there is one and the server offers filters
abbrev pub with_filter_line : Option (String Global) → ArgumentsValue → ArgumentsValue
with_filter_line (Some filter) a = if can_use (codes "filter") a then asks_filter (string_bytes filter) a else a
with_filter_line None a = a

-- the server offers filters: as a feature of the command `fetch` under version 2, as a capability under the others
abbrev pub has_filters : Handshake → Bool
has_filters h = has_feature (codes "filter") (default_features engine_table Fetch h.server_protocol_version h.capabilities)

-- a filter needs a server that offers filters; or an allocation failed
abbrev pub AllowsFilter : Option (String Global) → Handshake → Result (Unit {0}) EngineError → Type 0
AllowsFilter None h (Ok x) = ⊤
AllowsFilter None h (Err e) = ⊥
AllowsFilter (Some filter) h (Ok x) = has_filters h ≡ true
AllowsFilter (Some filter) h (Err NoFilters) = has_filters h ≡ false
AllowsFilter (Some filter) h (Err Memory) = ⊤
AllowsFilter (Some filter) h (Err _) = ⊥
