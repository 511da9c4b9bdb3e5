-- The filter in the first request of a fetch (gitprotocol-v2, "fetch"; git-rev-list, "--filter").
use Rattle.std.specs.Prelude.{◌≡◌, ◌⊎◌, if◌then◌else◌, Bool, true, List, ℕ, Option, Some, None, codes, String}
use Rattle.std.specs.declared.alloc.Global.{Global}
use Rattle.gixp_requests.specs.Arguments.{ArgumentsValue, can_use, asks_filter}
use Rattle.gixp_requests.specs.Command.{git_table}
use Rattle.gixp_requests.specs.Feature.{has_feature}
use Rattle.gixp_requests.specs.Offers.{default_features}
use Rattle.gixp_requests.specs.declared.command.Command.TheVariants.{Fetch}
use Rattle.gixp_handshake.specs.declared.handshake.read.Handshake.{Handshake}

-- the arguments with a filter, if there is one and the server offers filters
abbrev pub with_filter : Option (List ℕ) → ArgumentsValue → ArgumentsValue
with_filter None a = a
with_filter (Some filter) a = if can_use (codes "filter") a then asks_filter filter a else a

-- the server offers filters: as a feature of the command `fetch` under version 2, as a capability under the others
abbrev pub offers_filter : Handshake → Bool
offers_filter shaken = has_feature (codes "filter") (default_features git_table Fetch shaken.server_protocol_version shaken.capabilities)

-- there is no filter, or the server offers filters
abbrev pub FilterIsOffered : Option (String Global) → Handshake → Type 0
FilterIsOffered filter shaken = (filter ≡ None) ⊎ (offers_filter shaken ≡ true)
