-- The whole fetch, by its result (gitprotocol-capabilities; gitprotocol-pack, "Packfile Negotiation"; gitprotocol-v2, "fetch").
use Rattle.std.specs.Prelude.{◌≡◌, ◌⊎◌, Bool, true, false, List, Option, Result, Ok, Err}
use Rattle.gixp_packetline.specs.declared.protocol.Protocol.{Protocol}
use Rattle.gixp_packetline.specs.Reading.{Reading}
use Rattle.gixp_capabilities.specs.Capabilities.{CapabilityValue}
use Rattle.gixp_response.specs.Answer.{update_items}
use Rattle.gixp_requests.specs.Feature.{FeatureValue}
use Rattle.gixp_requests.specs.Command.{TableValue}
use Rattle.gixp_requests.specs.Arguments.{ArgumentsValue}
use Rattle.gixp_refmap.specs.declared.fetch.Tags.{Tags}
use Rattle.gixp_handshake.specs.declared.handshake.read.Handshake.{Handshake}
use Rattle.gixp_fetch.specs.declared.options.Outcome.{Outcome}
use Rattle.gixp_fetch.specs.declared.error.Error.{Error}
use Rattle.gixp_negotiate.specs.Negotiate.{action_value, negotiate}
use Rattle.gixp_fetch.specs.FetchShallow.{ShallowValue, is_change}
use Rattle.gixp_fetch.specs.Prepare.{features_of, Prepared, PrepareFails, LocksFirst, ReleasesIf, LockFails}
use Rattle.gixp_fetch.specs.Fetch.{FetchOptions, World, Parties, SessionEnds}

-- the input of a fetch: the table of the client, the version and the capabilities of the server, the agent and further features
-- of the client, the tags, and the shallow options
pub record FetchCall : Type 0 where
  pub table : TableValue
  pub version : Protocol
  pub capabilities : List CapabilityValue
  pub agent : FeatureValue
  pub more : List FeatureValue
  pub tags : Tags
  pub fetch_options : FetchOptions

-- the input by these parts
abbrev pub call_of : TableValue → Handshake → FeatureValue → List FeatureValue → Tags → ShallowValue → Bool → FetchCall
call_of table handshake agent more tags shallow reject = record {
  table = table;
  version = handshake.server_protocol_version;
  capabilities = handshake.capabilities;
  agent = agent;
  more = more;
  tags = tags;
  fetch_options = record { shallow = shallow; reported = update_items handshake.v1_shallow_updates; reject = reject };
}

-- the state that a fetch changes, while no lock is held
abbrev pub unlocked_world : {N I S C : Type 0} → N → Reading → I → S → C → World N I S C
unlocked_world n r i s c = record {
  negotiate = n;
  reading = r;
  interrupt = i;
  store = s;
  locked = false;
  consumer = c;
}

-- an outcome has a decision to negotiate, and a response with a pack
pub record IsNegotiated (outcome : Outcome) : Type 0 where
  pub known : List Bool
  pub action : action_value outcome.negotiate.action ≡ negotiate known
  pub pack : outcome.last_response.pack ≡ true

-- the features of the requests
abbrev pub features : FetchCall → List FeatureValue
features call = features_of call.table call.version call.capabilities call.agent call.more

module _ {N I A S C P X : Type 0} (parties : Parties N I A S C P X) (call : FetchCall) (old : World N I S C) where
  -- the first arguments are made, the lock is taken if the boundary may change, the rest is done, and a lock that is held is
  -- released
  pub record CarriesOut (result : Result (Option Outcome) (Error A X)) (new : World N I S C) (progress : P) : Type 0 where
    pub asked : ArgumentsValue
    pub banded : Bool
    pub held : S
    pub first : Bool
    pub last : World N I S C
    pub prepared : Prepared call.table call.version (features call) call.tags asked banded
    pub locks : LocksFirst parties.store_calls.locks (is_change call.fetch_options.shallow) old.store held first
    pub meets : SessionEnds parties call.version banded call.fetch_options asked (record old { store = held; locked = first }) result last progress
    pub releases : ReleasesIf parties.store_calls.releases last.locked last.store new.store
    pub position : new ≡ record last { store = new.store; locked = false }

  -- the first arguments or the lock failed, and nothing else changed
  pub data StartFails (e : Error A X) (new : World N I S C) : Type 0 where
    unprepared : PrepareFails call.table call.version (features call) call.tags e → new ≡ old → StartFails e new
    unlocked : (asked : ArgumentsValue) (banded : Bool) → Prepared call.table call.version (features call) call.tags asked banded
        → is_change call.fetch_options.shallow ≡ true → LockFails parties.store_calls.failures old.store e new.store
        → new ≡ record old { store = new.store } → StartFails e new

  -- the fetch, by its result; no lock is held before and after it
  abbrev pub Fetches : Result (Option Outcome) (Error A X) → World N I S C → P → Type 0
  Fetches (Ok o) new progress = CarriesOut (Ok o) new progress
  Fetches (Err e) new progress = StartFails e new ⊎ CarriesOut (Err e) new progress
