-- The connection over a server's output and input.
use Rattle.std.specs.Prelude.{◌≡◌, ℕ, List, [], Option, IfSome, unwrap_or}
use Rattle.std.specs.Option.{option_map}
use Rattle.bstr.specs.Owned.{bstring_bytes}
use Rattle.gix_protocol.specs.Connection.{IsNewConnection}
use Rattle.gix_protocol.specs.OpeningType.{Opening}
use Rattle.gix_protocol.specs.ProtocolType.{Protocol}
use Rattle.gix_protocol.specs.Reading.{Reading}

-- before the first call: the path and the host are sent first, where there is a path, and any version is accepted
pub record IsConnected (path host : Option (List ℕ)) (version : Protocol) (known holds : Option (List ℕ)) (r : Reading) : Type 0 where
  pub opening : Option Opening
  pub told_path : option_map (λ (o : Opening). bstring_bytes o.path) opening ≡ path
  pub told_host : IfSome opening (λ o. option_map bstring_bytes o.host ≡ host)
  pub connects : IsNewConnection known holds (unwrap_or path []) version [] opening r
