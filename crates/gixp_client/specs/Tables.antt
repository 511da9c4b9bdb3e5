-- The commands and features that a client uses by itself. They depend on whether the client wants progress and thin packs, and on
-- the allowed protocols of packfile URIs (gitprotocol-capabilities, "no-progress", "thin-pack"; gitprotocol-v2, "fetch"; git-config,
-- "fetch.uriProtocols").
use Rattle.std.specs.Prelude.{ℕ, Bool, true, false, not, List, [], ◌∷◌, ◌++◌, filter, codes}
use Rattle.std.specs.Str.{bytes_eq}
use Rattle.gixp_requests.specs.Command.{TableValue, WordEntry, always, by, git_table}
use Rattle.gixp_client.specs.declared.tables.UriProtocols.{UriProtocols}
use Rattle.gixp_client.specs.declared.tables.UriProtocols.TheVariants.{Neither, Http, Https, Both}

-- git's table without `ref-in-want`: a fetch requests objects by their ids, and no refs by their names
abbrev pub id_table : TableValue
id_table = record git_table { v2_fetch = codes "shallow" ∷ codes "filter" ∷ codes "sideband-all" ∷ [] }

-- `no-progress` is the last feature and argument
abbrev pub quiet : TableValue → TableValue
quiet t = record t {
  v1_fetch = t.v1_fetch ++ always (codes "no-progress") ∷ [];
  fetch_arguments = t.fetch_arguments ++ always (codes "no-progress") ∷ [];
}

abbrev pub plain_table : Bool → TableValue
plain_table true = id_table
plain_table false = quiet id_table

-- under version 2 this line names the protocols, if the server offers `packfile-uris`
abbrev pub naming : List ℕ → TableValue → TableValue
naming line t = record t {
  v2_fetch = t.v2_fetch ++ codes "packfile-uris" ∷ [];
  fetch_arguments = t.fetch_arguments ++ by (codes "packfile-uris") line ∷ [];
  fetch_prefixes = t.fetch_prefixes ++ codes "packfile-uris " ∷ [];
}

abbrev pub with_uris : UriProtocols → TableValue → TableValue
with_uris Neither t = t
with_uris Http t = naming (codes "packfile-uris http") t
with_uris Https t = naming (codes "packfile-uris https") t
with_uris Both t = naming (codes "packfile-uris http,https") t

-- the entries of all other words
abbrev pub without : List ℕ → List WordEntry → List WordEntry
without word entries = filter (λ (e : WordEntry). not (bytes_eq e.word word)) entries

-- without `thin-pack`, if the client can't complete a thin pack (gitprotocol-capabilities, "thin-pack")
abbrev pub with_thin : Bool → TableValue → TableValue
with_thin true t = t
with_thin false t = record t {
  v1_fetch = without (codes "thin-pack") t.v1_fetch;
  fetch_arguments = without (codes "thin-pack") t.fetch_arguments;
}

-- the table with a part for thin packs
abbrev pub thin_table : Bool → UriProtocols → TableValue
thin_table wants_progress protocols = with_uris protocols (plain_table wants_progress)

abbrev pub asked_table : (wants_progress wants_thin_pack : Bool) → UriProtocols → TableValue
asked_table wants_progress wants_thin_pack protocols = with_thin wants_thin_pack (thin_table wants_progress protocols)
