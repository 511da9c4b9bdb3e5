-- The names of services, and the repository that a handshake names (gitprotocol-pack, "Git Transport").
use Rattle.std.specs.Prelude.{ℕ, List, Option, option_map, codes}
use Rattle.bstr.specs.Owned.{bstring_bytes}
use Rattle.gixp_transport.specs.declared.service.Service.{Service}
use Rattle.gixp_transport.specs.declared.service.Service.TheVariants.{UploadPack, ReceivePack}
use Rattle.gixp_transport.specs.declared.service.Opening.{Opening}

abbrev pub service_name : Service → List ℕ
service_name UploadPack = codes "git-upload-pack"
service_name ReceivePack = codes "git-receive-pack"

-- the path of the repository, and the host
abbrev pub opening_value : Opening → List ℕ × Option (List ℕ)
opening_value o = (bstring_bytes o.path, option_map bstring_bytes o.host)
