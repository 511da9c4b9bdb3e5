-- The features that a session requests (gitprotocol-v2, "fetch"; gitprotocol-capabilities).
use Rattle.std.specs.Prelude.{[], ◌∷◌, codes}
use Rattle.gixp_requests.specs.Command.{TableValue, git_table}

-- git's table without `ref-in-want`
abbrev pub engine_table : TableValue
engine_table = record git_table { v2_fetch = codes "shallow" ∷ codes "filter" ∷ codes "sideband-all" ∷ [] }
