-- The quarantine of a pack, and the state of a pack.
use Rattle.std.specs.Prelude.{◌≡◌, ◌==◌, ◌&&◌, ◌||◌, ℕ, Bool, true, false, not, if◌then◌else◌, List, ◌++◌, length, map, codes, Option, Some, None, string_bytes}
use Rattle.std.specs.Char.{is_ascii_hexdigit}
use Rattle.std.specs.List.{list_all}
use Rattle.std.specs.Str.{bytes_eq}
use Rattle.bstr.specs.Owned.{bstring_bytes}
use Rattle.gix_protocol.specs.ObjectIdType.{ObjectId}
use Rattle.gixp_fetch_common.specs.declared.failure.Failure.{Failure}
use Rattle.gixp_fetch_common.specs.declared.failure.Failure.TheVariants.{PackRefused}
use Rattle.gixp_remote_rules.specs.IndexPack.{id_value, accepted_pack}
use Rattle.gixp_remote_rules.specs.Unpacking.{unpacks}
use Rattle.gixp_remote_session.specs.declared.pack.state.PackState.{PackState}
use Rattle.gixp_remote_session.specs.declared.pack.state.PackState.TheVariants.{Unreadable, Unstarted, Refused, Indexed, Unpacked, Empty}
use Rattle.gixp_remote_session.specs.declared.error.Error.{Error}
use Rattle.gixp_remote_session.specs.declared.error.Error.TheVariants.{Fetch, Other, Fatal}
use Rattle.gixp_remote_rules.specs.HelperOptions.{HelperOptionsValue}
use Rattle.gixp_remote_rules.specs.Argv.{index_argv, object_variables}
use Rattle.gixp_remote_rules.specs.FetchReply.{reports_connectivity}
use Rattle.gixp_remote_session.specs.declared.pack.plan.PackPlan.{PackPlan}

-- the quarantine, which is in the object directory, and the file for the boundary there
abbrev pub pack_folder : List ℕ → List ℕ → List ℕ
pack_folder objects name = objects ++ (codes "/tmp_objdir-" ++ name)

abbrev pub pack_boundary : List ℕ → List ℕ → List ℕ
pack_boundary objects name = pack_folder objects name ++ codes "/shallow"

-- the arguments and variables of git index-pack there; `more` is where git looked for objects
-- before
pub record IsPlan (objects name : List ℕ) (c : HelperOptionsValue) (checks : List (List ℕ)) (p : PackPlan) : Type 0 where
  pub folder : string_bytes p.folder ≡ pack_folder objects name
  pub shallow : string_bytes p.shallow ≡ pack_boundary objects name
  pub argv : map bstring_bytes p.argv.items ≡ index_argv name None c checks
  pub bounded : map bstring_bytes p.boundary_argv.items ≡ index_argv name (Some (pack_boundary objects name)) c checks
  pub more : Option (List ℕ)
  pub variables : map bstring_bytes p.variables.items ≡ object_variables (pack_folder objects name) objects more

-- a copy of a plan
pub record SamePlan (p q : PackPlan) : Type 0 where
  pub folder : string_bytes q.folder ≡ string_bytes p.folder
  pub shallow : string_bytes q.shallow ≡ string_bytes p.shallow
  pub argv : map bstring_bytes q.argv.items ≡ map bstring_bytes p.argv.items
  pub bounded : map bstring_bytes q.boundary_argv.items ≡ map bstring_bytes p.boundary_argv.items
  pub old : q.old.items ≡ p.old.items
  pub variables : map bstring_bytes q.variables.items ≡ map bstring_bytes p.variables.items

-- objects were received, which are only in the quarantine
abbrev pub has_objects : PackState → Bool
has_objects (Indexed indexed) = true
has_objects (Unpacked bounded) = true
has_objects state = false

-- the server sent a boundary before the pack
abbrev pub has_boundary : PackState → Bool
has_boundary (Indexed indexed) = indexed.has_boundary
has_boundary (Unpacked bounded) = bounded
has_boundary (Empty bounded) = bounded
has_boundary state = false

-- a pack with this many objects is unpacked, if there is a limit
abbrev pub is_unpacked : Option ℕ → ℕ → Bool
is_unpacked None count = false
is_unpacked (Some limit) count = unpacks limit count

-- the state of a pack that git unpacked, by its exit status
abbrev pub unpacked_state : ℕ → Bool → ℕ → Option PackState
unpacked_state count bounded status =
    if not (status == 0) then None else if count == 0 then Some (Empty bounded) else Some (Unpacked bounded)

-- the state of a pack that git indexed
abbrev pub indexed_state : ℕ → ObjectId → Bool → ℕ → PackState
indexed_state count hash has_boundary status =
    if count == 0 then Empty has_boundary else Indexed (record { hash = hash; has_boundary = has_boundary; status = status })

-- a pack is indexed or empty, by the hash that git prints
abbrev pub AreIndexed : Bool → ℕ → Option (List ℕ) → ℕ → Option PackState → Type 0
AreIndexed has_boundary count None status state = state ≡ None
AreIndexed has_boundary count (Some name) status state =
    (hash : ObjectId) × (id_value hash ≡ name) × (state ≡ Some (indexed_state count hash has_boundary status))

-- the state of a pack, by the output of git and its exit status
abbrev pub IsStateAfter : Bool → Bool → ℕ → List ℕ → ℕ → Option PackState → Type 0
IsStateAfter true has_boundary count text status state = state ≡ unpacked_state count has_boundary status
IsStateAfter false has_boundary count text status state = AreIndexed has_boundary count (accepted_pack text status) status state

-- the error of a fetch: a bad pack header, a git that isn't started and a refused pack override the
-- session's error
abbrev pub ErrorIsFailure : PackState → Failure → Error → Type 0
ErrorIsFailure Unreadable e (Fatal why) = why.now ≡ codes "protocol error: bad pack header"
ErrorIsFailure Unreadable e _ = ⊥
ErrorIsFailure Unstarted e (Other why) = why.now ≡ codes "a program can't be started"
ErrorIsFailure Unstarted e _ = ⊥
ErrorIsFailure Refused e error = error ≡ Fetch PackRefused
ErrorIsFailure state e error = error ≡ Fetch e

-- git checked connectivity: one pack came, and git indexed it
abbrev pub is_connected : HelperOptionsValue → PackState → Bool → Bool → Bool
is_connected c (Indexed indexed) is_alone was_here = is_alone && reports_connectivity c indexed.has_boundary was_here indexed.status
is_connected c state is_alone was_here = false

-- the name of a folder with loose objects: two hexadecimal digits
abbrev pub is_object_folder : List ℕ → Bool
is_object_folder name = length name == 2 && list_all is_ascii_hexdigit name

-- the files that every pack has
abbrev pub is_in_every_pack : List ℕ → Bool
is_in_every_pack end = bytes_eq end (codes ".pack") || bytes_eq end (codes ".idx")
