-- The questions to git: arguments and environment variables.
use Rattle.std.specs.Prelude.{ℕ, if◌then◌else◌, List, [], ◌∷◌, ◌++◌, codes, Option, Some, None}
use Rattle.std.specs.Str.{bytes_eq}
use Rattle.gixp_remote_rules.specs.Argv.{shallow_argv}
use Rattle.gixp_remote_rules.specs.declared.question.Question.{Question}
use Rattle.gixp_remote_rules.specs.declared.question.Question.TheVariants.{Paths, Refs, Commits, SkipList, Number, Time, Check, Present, Connected, ConnectedToRefs}
use Rattle.gixp_remote_rules.specs.declared.question.Within.{Within}
use Rattle.gixp_remote_rules.specs.declared.question.Within.TheVariants as within

-- git fetches no missing object (git-rev-list, "--missing"), and skips refs whose object is missing
-- ("--ignore-missing"), if these arguments precede those that name refs
abbrev pub list_argv : List (List ℕ) → List (List ℕ)
list_argv argv = codes "rev-list" ∷ codes "--missing=allow-any" ∷ codes "--ignore-missing" ∷ argv

-- the refs, also of alternates (git-rev-list, "--all", "--alternate-refs")
abbrev pub all_refs : List (List ℕ)
all_refs = codes "--all" ∷ codes "--alternate-refs" ∷ []

-- the commits that refs reach, each with its time and its parents
abbrev pub commit_argv : List (List ℕ)
commit_argv = list_argv (codes "--timestamp" ∷ codes "--parents" ∷ all_refs)

-- the named objects, and what tags among them point to, but nothing else that they reach
-- (git-rev-list, "--no-walk", "--filter")
abbrev pub object_argv : List (List ℕ) → List (List ℕ)
object_argv named = list_argv (codes "--no-walk=unsorted" ∷ codes "--objects" ∷ codes "--filter=tree:0" ∷ named)

-- everything that ids reach is present or promised: the exit status says so (git-fetch-pack)
abbrev pub connected_argv : Option (List ℕ) → List (List ℕ) → List (List ℕ)
connected_argv shallow named =
    shallow_argv shallow
    ++ (codes "rev-list" ∷ codes "--objects" ∷ codes "--quiet" ∷ codes "--exclude-promisor-objects" ∷ codes "--stdin" ∷ named)

-- the number in a configuration entry
abbrev pub number_argv : List ℕ → List (List ℕ)
number_argv name = codes "config" ∷ codes "--type=int" ∷ codes "--get" ∷ name ∷ []

-- the path in the entry of the list of objects that aren't checked, by the value of the entry; git
-- prints a NUL byte after it
abbrev pub path_argv : List ℕ → List (List ℕ)
path_argv value =
    codes "config" ∷ codes "--type=path" ∷ codes "--null" ∷ codes "--fixed-value" ∷ codes "--get" ∷ codes "fetch.fsck.skiplist" ∷ value ∷ []

abbrev pub time_argv : List ℕ → List (List ℕ)
time_argv since = codes "rev-parse" ∷ (codes "--since=" ++ since) ∷ []

abbrev pub message_argv : List ℕ → List (List ℕ)
message_argv name = codes "index-pack" ∷ (codes "--strict=" ++ (name ++ codes "=error")) ∷ codes "--no-such-word" ∷ []

-- the arguments of a question (git-config; git-rev-parse; git-rev-list; git-index-pack, "--strict")
abbrev pub question_argv : Question → List (List ℕ)
question_argv Paths =
    codes "rev-parse" ∷ codes "--show-object-format" ∷ codes "--path-format=absolute" ∷ codes "--git-path" ∷ codes "shallow"
    ∷ codes "--git-path" ∷ codes "objects" ∷ []
question_argv Refs = object_argv all_refs
question_argv Commits = commit_argv
question_argv (SkipList value) = path_argv value.now
question_argv (Number name) = number_argv name.now
question_argv (Time since) = time_argv since.now
question_argv (Check name) = message_argv name.now
question_argv Present = object_argv (codes "--stdin" ∷ [])
question_argv (Connected shallow) = connected_argv (Some shallow.now) []
question_argv ConnectedToRefs = connected_argv None (codes "--not" ∷ all_refs)

abbrev pub limit_argv : Option (List ℕ) → List (List ℕ)
limit_argv None = []
limit_argv (Some limit) = codes "-n" ∷ limit ∷ []

-- the commits for haves, at most `limit` of them
abbrev pub listing_argv : Option (List ℕ) → List (List ℕ)
listing_argv limit = commit_argv ++ limit_argv limit

-- the work of an outer helper that made git start this one: its pack, or a question
abbrev pub within_of : Option (List ℕ) → Within
within_of None = within.Nothing
within_of (Some word) = if bytes_eq word (codes "pack") then within.Pack else within.Question

-- git fetches nothing promised while it answers a question (git, "GIT_NO_LAZY_FETCH"), and a helper
-- that it starts learns of it
abbrev pub question_variables : List (List ℕ) → List (List ℕ)
question_variables more = codes "GIT_NO_LAZY_FETCH=1" ∷ codes "GIXP_WITHIN=question" ∷ more

-- git may fetch what a pack needs (git-index-pack, "--fix-thin"), but not within another such pack
abbrev pub pack_variables : Within → List (List ℕ) → List (List ℕ)
pack_variables within.Nothing more = codes "GIXP_WITHIN=pack" ∷ more
pack_variables _ more = question_variables more
