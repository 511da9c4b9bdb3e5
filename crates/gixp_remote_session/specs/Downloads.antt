-- The packs that a server names by URIs (git-config, "fetch.uriProtocols"; gitprotocol-v2,
-- "packfile-uris").
use Rattle.std.specs.Prelude.{◌≡◌, ℕ, Bool, true, false, List, ◌∷◌, ◌++◌, length, codes, Option, Some, None}
use Rattle.gix_protocol.specs.ObjectIdType.{ObjectId}
use Rattle.gix_protocol.specs.UriProtocolsType.{UriProtocols}
use Rattle.gix_protocol.specs.UriProtocolsType.TheVariants.{Neither, Http, Https, Both}
use Rattle.gixp_remote_rules.specs.declared.uris.DownloadError.{DownloadError}
use Rattle.gixp_remote_rules.specs.declared.uris.DownloadError.TheVariants.{NoLock, NoName, Unfinished}
use Rattle.gixp_remote_session.specs.declared.pack.state.PackState.{PackState}
use Rattle.gixp_remote_session.specs.declared.pack.state.PackState.TheVariants.{Indexed}

-- the protocols to request
abbrev pub protocols_of : (http https : Bool) → UriProtocols
protocols_of false false = Neither
protocols_of true false = Http
protocols_of false true = Https
protocols_of true true = Both

-- a line: the hash of a pack in 40 digits, a space (32), and a URI
abbrev pub AreParts : (line name uri : List ℕ) → Type 0
AreParts line name uri = (line ≡ name ++ 32 ∷ uri) × (length name ≡ 40)

-- git's error for a download that failed
abbrev pub download_error : DownloadError → List ℕ
download_error NoLock = codes "fetch-pack: expected keep then TAB at start of http-fetch output"
download_error NoName = codes "fetch-pack: expected hash then LF at end of http-fetch output"
download_error Unfinished = codes "fetch-pack: unable to finish http-fetch"

-- the hash of the server's own pack
abbrev pub own_pack : PackState → Option ObjectId
own_pack (Indexed indexed) = Some indexed.hash
own_pack state = None
