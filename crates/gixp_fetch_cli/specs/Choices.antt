-- What the options of a command line ask for.
use Rattle.std.specs.Prelude.{◌≡◌, ◌<◌, ◌&&◌, ◌||◌, ℕ, ℤ, Bool, true, false, not, is_some, if◌then◌else◌, List, [], ◌∷◌, length, map, codes, Option, Some, None, unwrap_or, Ok}
use Rattle.std.specs.Int.{w64}
use Rattle.std.specs.Option.{option_map}
use Rattle.std.specs.Str.{bytes_eq}
use Rattle.std.specs.Str.Parse.{ParsesUnsigned, ParsesSigned}
use Rattle.bstr.specs.Owned.{bstring_bytes}
use Rattle.gixp_packetline.specs.declared.protocol.Protocol.{Protocol}
use Rattle.gixp_packetline.specs.declared.protocol.Protocol.TheVariants.{V0, V1, V2}
use Rattle.gixp_refmap.specs.declared.fetch.Tags.{Tags}
use Rattle.gixp_refmap.specs.declared.fetch.Tags.TheVariants.{All, Included, None as NoTags}
use Rattle.gixp_shallow.specs.Shallow.{ShallowValue, no_change, at_remote, deepens, since, excludes, shallow_value}
use Rattle.gixp_negotiators.specs.declared.algorithm.Algorithm.TheVariants.{Consecutive}
use Rattle.gixp_negotiators.specs.Algorithm.{IsNameOf}
use Rattle.gixp_fetch_common.specs.declared.haves.Haves.{Haves}
use Rattle.gixp_fetch_common.specs.declared.haves.Haves.TheVariants.{By, InOrder}
use Rattle.gixp_fetch_cli.specs.declared.options.Server.{Server}
use Rattle.gixp_fetch_cli.specs.declared.options.Files.{Files}
use Rattle.gixp_fetch_cli.specs.declared.options.Questions.{Questions}
use Rattle.gixp_fetch_cli.specs.declared.options.OutputOptions.{OutputOptions}
use Rattle.gixp_fetch_cli.specs.declared.options.FetchArgs.{FetchArgs}
use Rattle.gixp_fetch_cli.specs.declared.options.Task.{Task}
use Rattle.gixp_fetch_cli.specs.declared.options.Task.TheVariants.{Help, Version, List as ListRefs, Fetch}
use Rattle.gixp_fetch_cli.specs.declared.options.ProgramOptions.{ProgramOptions}
use Rattle.gixp_fetch_cli.specs.OptionNames.{value_in, values_in}
use Rattle.gixp_fetch_cli.specs.CommandLine.{LineParts}

-- the value that an option was given last
abbrev pub value : LineParts → List ℕ → Option (List ℕ)
value line name = value_in line.settings name

-- all values that it was given
abbrev pub values : LineParts → List ℕ → List (List ℕ)
values line name = values_in line.settings name

abbrev pub has : LineParts → List ℕ → Bool
has line name = is_some (value line name)

-- the version of the protocol, which is 2 where none is asked for
abbrev pub version_of : Option (List ℕ) → Option Protocol
version_of None = Some V2
version_of (Some word) =
    if bytes_eq word (codes "0") then Some V0
    else if bytes_eq word (codes "1") then Some V1
    else if bytes_eq word (codes "2") then Some V2
    else None

-- the tags, which are none where none are asked for
abbrev pub tags_of : Option (List ℕ) → Option Tags
tags_of None = Some NoTags
tags_of (Some word) =
    if bytes_eq word (codes "all") then Some All
    else if bytes_eq word (codes "included") then Some Included
    else if bytes_eq word (codes "none") then Some NoTags
    else None

-- the negotiator: `consecutive` where none is named, all commits in their order, or one of git's negotiators
abbrev pub IsHaves : Option (List ℕ) → Haves → Type 0
IsHaves None haves = haves ≡ By Consecutive
IsHaves (Some word) InOrder = bytes_eq word (codes "list") ≡ true
IsHaves (Some word) (By algorithm) = IsNameOf algorithm word

-- this word is this number, below 2 ^ 32
abbrev pub IsNumber : List ℕ → ℕ → Type 0
IsNumber word number = ParsesUnsigned {E = Unit {0}} 32 10 word (Ok number)

-- this word is this time in seconds, of 64 bits with a sign
abbrev pub IsSeconds : List ℕ → ℤ → Type 0
IsSeconds word seconds = ParsesSigned {E = Unit {0}} w64 10 word (Ok seconds)

-- whether part of the history is to be left out
abbrev pub has_cut : LineParts → Bool
has_cut line = has line (codes "--since") || has line (codes "--exclude")

-- whether it is said how much of the history is wanted without a cut
abbrev pub has_extent : LineParts → Bool
has_extent line = has line (codes "--unshallow") || has line (codes "--depth") || has line (codes "--deepen")

-- whether it is said how much of the history is wanted
abbrev pub has_history : LineParts → Bool
has_history line = has_cut line || has_extent line

-- whether that is said twice without a cut
abbrev pub has_two_extents : LineParts → Bool
has_two_extents line =
    (has line (codes "--depth") && has line (codes "--deepen"))
    || (has line (codes "--unshallow") && (has line (codes "--depth") || has line (codes "--deepen")))

-- whether options are there that can't be used together: one alone asks for a depth, and a cut is one
abbrev pub has_conflict : LineParts → Bool
has_conflict line = has_two_extents line || (has_cut line && has_extent line)

-- what is left of the history: no commit from before a time (`--since`), and none that one of the names leads to (`--exclude`)
pub record CutsHistory (line : LineParts) (wanted : ShallowValue) : Type 0 where
  pub excluded : has line (codes "--exclude") ≡ true → has line (codes "--since") ≡ false
      → wanted ≡ excludes (values line (codes "--exclude")) None
  pub both : has line (codes "--exclude") ≡ true → (word : List ℕ) → value line (codes "--since") ≡ Some word
      → (t : ℤ) × IsSeconds word t × (wanted ≡ excludes (values line (codes "--exclude")) (Some t))
  pub later : has line (codes "--exclude") ≡ false → (word : List ℕ) → value line (codes "--since") ≡ Some word
      → (t : ℤ) × IsSeconds word t × (wanted ≡ since t)
  pub unchanged : has_cut line ≡ false → wanted ≡ no_change

-- how much of the history is asked for, as of `git fetch`: so many commits from each ref on (`--depth`), so many more than there
-- are (`--deepen`), all of it (`--unshallow`), or what is left by a cut; as it is where none of them is there
pub record AsksHistory (line : LineParts) (wanted : ShallowValue) : Type 0 where
  pub alone : has_conflict line ≡ false
  pub depth : (word : List ℕ) → value line (codes "--depth") ≡ Some word → (n : ℕ) × IsNumber word n × (wanted ≡ at_remote n)
  pub deepen : (word : List ℕ) → value line (codes "--deepen") ≡ Some word → (n : ℕ) × IsNumber word n × (wanted ≡ deepens n)
  pub unshallow : has line (codes "--unshallow") ≡ true → wanted ≡ at_remote 2147483647
  pub cut : has line (codes "--depth") ≡ false → has line (codes "--deepen") ≡ false → has line (codes "--unshallow") ≡ false
      → CutsHistory line wanted

-- the files of questions and answers; a line has both or neither
abbrev pub AsksQuestions : LineParts → Option Questions → Type 0
AsksQuestions line (Some q) = (value line (codes "--ask") ≡ Some q.ask.now) × (value line (codes "--answers") ≡ Some q.answers.now)
AsksQuestions line None = (value line (codes "--ask") ≡ None) × (value line (codes "--answers") ≡ None)

-- the texts of the repository
pub record AsksFiles (line : LineParts) (files : Files) : Type 0 where
  pub refs : option_map (λ w. w.now) files.refs ≡ value line (codes "--refs")
  pub commits : option_map (λ w. w.now) files.commits ≡ value line (codes "--commits")
  pub objects : option_map (λ w. w.now) files.objects ≡ value line (codes "--objects")
  pub questions : AsksQuestions line files.questions
  pub shallow : option_map (λ w. w.now) files.shallow ≡ value line (codes "--shallow")

-- what is printed, and where; without progress where errors alone are printed
pub record AsksOutput (line : LineParts) (output : OutputOptions) : Type 0 where
  pub report : option_map (λ w. w.now) output.report ≡ value line (codes "--report")
  pub quiet : output.is_quiet ≡ has line (codes "--quiet")
  pub progress : output.shows_progress ≡ (if has line (codes "--quiet") then false else has line (codes "--progress"))

-- the report would follow the requests on standard output, which the server reads
abbrev pub mixes_report : LineParts → List ℕ → Bool
mixes_report line to = bytes_eq to (codes "-") && not (has line (codes "--report")) && not (has line (codes "--quiet"))

-- a fetch; a shallow server is refused, and no depth is asked for, where no boundary can be kept
pub record AsksFetch (line : LineParts) (fetch_args : FetchArgs) : Type 0 where
  pub tags : tags_of (value line (codes "--tags")) ≡ Some fetch_args.tags
  pub haves : IsHaves (value line (codes "--negotiator")) fetch_args.haves
  pub history : AsksHistory line (shallow_value fetch_args.shallow)
  pub kept : has line (codes "--shallow") ≡ false → shallow_value fetch_args.shallow ≡ no_change
  pub rejects : fetch_args.rejects_shallow ≡ (if has line (codes "--shallow") then has line (codes "--reject-shallow") else true)

-- whether the operands are the files of a fetch and a refspec or more
abbrev pub AreOfFetch : List (List ℕ) → (from to : List ℕ) → FetchArgs → Type 0
AreOfFetch operands from to fetch_args =
    (operands ≡ from ∷ to ∷ fetch_args.pack.now ∷ map bstring_bytes fetch_args.specs.items) × (0 < length fetch_args.specs.items)

-- the task by the operands: a list of the refs, or a fetch
abbrev pub AsksWork : LineParts → (from to : List ℕ) → Task → Type 0
AsksWork line from to (ListRefs keeps_open) =
    (has line (codes "--list") ≡ true) × (line.operands ≡ from ∷ to ∷ []) × (keeps_open ≡ has line (codes "--keep-open"))
AsksWork line from to (Fetch fetch_args) =
    (has line (codes "--list") ≡ false) × (has line (codes "--keep-open") ≡ false)
    × AreOfFetch line.operands from to fetch_args × AsksFetch line fetch_args
AsksWork line from to _ = ⊥

-- the task: to print the usage, or else the version, whatever the operands are, or else a list or a fetch
pub record AsksTask (line : LineParts) (from to : List ℕ) (task : Task) : Type 0 where
  pub help : has line (codes "--help") ≡ true → task ≡ Help
  pub version : has line (codes "--help") ≡ false → has line (codes "-V") ≡ true → task ≡ Version
  pub work : has line (codes "--help") ≡ false → has line (codes "-V") ≡ false → AsksWork line from to task

-- the server, and the protocol's parameters
pub record AsksServer (line : LineParts) (server : Server) : Type 0 where
  pub version : version_of (value line (codes "--version")) ≡ Some server.version
  pub path : option_map (λ w. w.now) server.path ≡ value line (codes "--path")
  pub host : option_map (λ w. w.now) server.host ≡ value line (codes "--host")
  pub agent : server.agent.now ≡ unwrap_or (value line (codes "--agent")) (codes "gixp")

-- all options of a command line
pub record AsksOptions (line : LineParts) (options : ProgramOptions) : Type 0 where
  pub task : AsksTask line options.server.from.now options.server.to.now options.task
  pub server : AsksServer line options.server
  pub filter : option_map (λ w. w.now) options.filter ≡ value line (codes "--filter")
  pub files : AsksFiles line options.files
  pub output : AsksOutput line options.output
  pub apart : mixes_report line options.server.to.now ≡ false
