-- Arguments and environment variables of the git programs that the shell starts.
use Rattle.std.specs.Prelude.{ℕ, ◌==◌, ◌||◌, ◌&&◌, not, nat_eq, Bool, if◌then◌else◌, List, [], ◌∷◌, ◌++◌, drop, flat_map, codes, is_some, Option, Some, None}
use Rattle.std.specs.List.{starts_with}
use Rattle.gixp_remote_rules.specs.HelperOptions.{HelperOptionsValue, wants_connectivity}

-- for a remote without a name git passes `gixp::URL`; then the name is the URL
abbrev pub remote_name : List ℕ → List ℕ
remote_name name = if starts_with nat_eq name (codes "gixp::") then drop 6 name else name

-- git's program that speaks HTTP, and requests this version
abbrev pub web_argv : (version scheme name url : List ℕ) → List (List ℕ)
web_argv version scheme name url =
    codes "-c" ∷ (codes "protocol.version=" ++ version) ∷ (codes "remote-" ++ scheme) ∷ remote_name name ∷ url ∷ []

-- a server on this machine
abbrev pub upload_pack_argv : List ℕ → List (List ℕ)
upload_pack_argv path = codes "upload-pack" ∷ path ∷ []

abbrev pub arg_if : Bool → List ℕ → List (List ℕ)
arg_if is_there word = if is_there then word ∷ [] else []

-- whether git index-pack checks that the pack is self-contained and connected: not if the server
-- sent a boundary that isn't taken over
abbrev pub checks_connectivity : Bool → HelperOptionsValue → Bool
checks_connectivity has_boundary c = wants_connectivity c && (not has_boundary || (c.is_cloning || c.updates_shallow))

-- the flags of git index-pack
abbrev pub flags_of : Bool → HelperOptionsValue → List (List ℕ)
flags_of has_boundary c =
    arg_if (checks_connectivity has_boundary c) (codes "--check-self-contained-and-connected")
    ++ (arg_if c.is_from_promisor (codes "--promisor") ++ arg_if (c.shows_progress && not c.is_quiet) (codes "-v"))

-- a boundary in another file than the repository's
abbrev pub shallow_argv : Option (List ℕ) → List (List ℕ)
shallow_argv None = []
shallow_argv (Some path) = codes "--shallow-file" ∷ path ∷ []

abbrev pub pack_argv : List ℕ → List (List ℕ)
pack_argv folder = codes "index-pack" ∷ codes "--stdin" ∷ codes "--fix-thin" ∷ (codes "--keep=fetched by gixp in " ++ folder) ∷ []

-- git index-pack, whose lock names a folder; if the server sent a boundary, a file has it
abbrev pub index_argv : List ℕ → Option (List ℕ) → HelperOptionsValue → List (List ℕ) → List (List ℕ)
index_argv folder shallow c checks =
    shallow_argv shallow ++ (pack_argv folder ++ (flags_of (is_some shallow) c ++ checks))

-- the argument for checking objects (git-index-pack, "--strict", "--fsck-objects"): the links of
-- promised objects aren't checked
abbrev pub fsck_arg : HelperOptionsValue → List ℕ → List ℕ
fsck_arg c list = if c.is_from_promisor then codes "--fsck-objects" else codes "--strict" ++ list

-- a byte of a quoted path: a backslash (92) precedes a quote (34) and a backslash
abbrev pub escaped_in_quotes : ℕ → List ℕ
escaped_in_quotes b = if b == 34 || b == 92 then 92 ∷ b ∷ [] else b ∷ []

abbrev pub in_quotes : List ℕ → List ℕ
in_quotes path = 34 ∷ (flat_map escaped_in_quotes path ++ 34 ∷ [])

abbrev pub after_colon : Option (List ℕ) → List ℕ
after_colon None = []
after_colon (Some more) = 58 ∷ more

-- git looks for objects in a folder first, then in the repository, then where it looked before
abbrev pub object_variables : List ℕ → List ℕ → Option (List ℕ) → List (List ℕ)
object_variables folder objects more =
    (codes "GIT_OBJECT_DIRECTORY=" ++ folder) ∷ (codes "GIT_ALTERNATE_OBJECT_DIRECTORIES=" ++ (in_quotes objects ++ after_colon more)) ∷ []

abbrev pub version_variable : Option (List ℕ) → List ℕ
version_variable None = codes "GIT_PROTOCOL"
version_variable (Some word) = codes "GIT_PROTOCOL=" ++ word

-- the variables of a repository (git-rev-parse, "--local-env-vars")
abbrev pub local_variables : List (List ℕ)
local_variables =
    codes "GIT_ALTERNATE_OBJECT_DIRECTORIES" ∷ codes "GIT_CONFIG" ∷ codes "GIT_CONFIG_PARAMETERS" ∷ codes "GIT_CONFIG_COUNT"
    ∷ codes "GIT_OBJECT_DIRECTORY" ∷ codes "GIT_DIR" ∷ codes "GIT_WORK_TREE" ∷ codes "GIT_IMPLICIT_WORK_TREE"
    ∷ codes "GIT_GRAFT_FILE" ∷ codes "GIT_INDEX_FILE" ∷ codes "GIT_NO_REPLACE_OBJECTS" ∷ codes "GIT_REPLACE_REF_BASE"
    ∷ codes "GIT_PREFIX" ∷ codes "GIT_INTERNAL_SUPER_PREFIX" ∷ codes "GIT_SHALLOW_FILE" ∷ codes "GIT_COMMON_DIR" ∷ []

-- the variables of a server: none of the repository's, and the version
abbrev pub server_variables : Option (List ℕ) → List (List ℕ)
server_variables version = local_variables ++ version_variable version ∷ []
