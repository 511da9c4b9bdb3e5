-- The commands of version 2, and the features and arguments that a client requests by default (gitprotocol-v2, "Command
-- Request", "ls-refs", "fetch"; gitprotocol-capabilities).
use Rattle.std.specs.Prelude.{ℕ, Bool, true, if◌then◌else◌, List, [], ◌∷◌, ◌++◌, Option, Some, None, Vec, map, filter, nat_eq, codes}
use Rattle.std.specs.Option.{option_copied}
use Rattle.std.specs.Borrow.{Bor}
use Rattle.std.specs.List.{starts_with}
use Rattle.std.specs.declared.alloc.Global.{Global}
use Rattle.bstr.specs.declared.bstring.BString.{BString}
use Rattle.bstr.specs.Owned.{bstring_bytes}
use Rattle.gixp_requests.specs.declared.command.Command.{Command}
use Rattle.gixp_requests.specs.declared.command.Command.TheVariants.{LsRefs, Fetch}
use Rattle.gixp_requests.specs.declared.command.table.CommandTable.{CommandTable}
use Rattle.gixp_requests.specs.Feature.{FeatureValue, has_feature}

abbrev pub command_name : Command → List ℕ
command_name LsRefs = codes "ls-refs"
command_name Fetch = codes "fetch"

abbrev pub texts : Vec BString Global → List (List ℕ)
texts v = map bstring_bytes v.items

-- a word of a table, and the name of a feature or capability on which it depends, if there is one
pub record WordEntry : Type 0 where
  pub word : List ℕ
  pub other : Option (List ℕ)

abbrev pub entry_of : Bor (List ℕ) × Option (Bor (List ℕ)) → WordEntry
entry_of e = record { word = e.0.now; other = option_copied e.1 }

abbrev pub entries_of : List (Bor (List ℕ) × Option (Bor (List ℕ))) → List WordEntry
entries_of = map entry_of

abbrev pub words_of : List (Bor (List ℕ)) → List (List ℕ)
words_of = map (λ w. w.now)

pub record TableValue : Type 0 where
  pub v1_fetch : List WordEntry
  pub v2_fetch : List (List ℕ)
  pub v2_ls_refs : List (List ℕ)
  pub fetch_arguments : List WordEntry
  pub ls_refs_arguments : List (List ℕ)
  pub fetch_prefixes : List (List ℕ)
  pub ls_refs_prefixes : List (List ℕ)

abbrev pub table_of : CommandTable → TableValue
table_of t = record {
  v1_fetch = entries_of t.v1_fetch.now;
  v2_fetch = words_of t.v2_fetch.now;
  v2_ls_refs = words_of t.v2_ls_refs.now;
  fetch_arguments = entries_of t.fetch_arguments.now;
  ls_refs_arguments = words_of t.ls_refs_arguments.now;
  fetch_prefixes = words_of t.fetch_prefixes.now;
  ls_refs_prefixes = words_of t.ls_refs_prefixes.now;
}

abbrev pub always : List ℕ → WordEntry
always word = record { word = word; other = None }

abbrev pub by : List ℕ → List ℕ → WordEntry
by other word = record { word = word; other = Some other }

-- the features and arguments of git's own client, as far as this one uses them
abbrev pub git_table : TableValue
git_table = record {
  v1_fetch =
      by (codes "multi_ack_detailed") (codes "multi_ack")
      ∷ always (codes "thin-pack")
      ∷ by (codes "side-band-64k") (codes "side-band")
      ∷ always (codes "side-band-64k")
      ∷ always (codes "ofs-delta")
      ∷ always (codes "shallow")
      ∷ always (codes "deepen-since")
      ∷ always (codes "deepen-not")
      ∷ always (codes "deepen-relative")
      ∷ always (codes "include-tag")
      ∷ always (codes "multi_ack_detailed")
      ∷ always (codes "filter")
      ∷ [];
  v2_fetch = codes "shallow" ∷ codes "filter" ∷ codes "ref-in-want" ∷ codes "sideband-all" ∷ [];
  v2_ls_refs = [];
  fetch_arguments = always (codes "thin-pack") ∷ always (codes "ofs-delta") ∷ by (codes "sideband-all") (codes "sideband-all") ∷ [];
  ls_refs_arguments = codes "symrefs" ∷ codes "peel" ∷ [];
  fetch_prefixes =
      codes "want " ∷ codes "have " ∷ codes "done" ∷ codes "thin-pack" ∷ codes "no-progress" ∷ codes "include-tag" ∷ codes "ofs-delta"
      ∷ codes "shallow " ∷ codes "deepen " ∷ codes "deepen-relative" ∷ codes "deepen-since " ∷ codes "deepen-not " ∷ codes "filter "
      ∷ codes "want-ref " ∷ codes "sideband-all" ∷ [];
  ls_refs_prefixes = codes "symrefs" ∷ codes "peel" ∷ codes "ref-prefix " ∷ codes "unborn" ∷ [];
}

-- whether a line is sent with these features
abbrev pub goes_with : List FeatureValue → Option (List ℕ) → Bool
goes_with features None = true
goes_with features (Some name) = has_feature name features

-- the lines of the entries that are sent with these features, in order
abbrev pub lines_with : List FeatureValue → List WordEntry → List (List ℕ)
lines_with features entries = map (λ (e : WordEntry). e.word) (filter (λ e. goes_with features e.other) entries)

-- the first arguments of a request of version 2
abbrev pub initial_arguments : TableValue → Command → List FeatureValue → List (List ℕ)
initial_arguments table LsRefs features = table.ls_refs_arguments
initial_arguments table Fetch features = lines_with features table.fetch_arguments

-- the name of an agent, with `git/` before it unless it begins with that
abbrev pub agent_of : List ℕ → List ℕ
agent_of name = if starts_with nat_eq name (codes "git/") then name else codes "git/" ++ name

-- the feature `agent` of a client
abbrev pub agent_feature : List ℕ → FeatureValue
agent_feature name = record { name = codes "agent"; value = Some (agent_of name) }
