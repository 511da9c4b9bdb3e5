-- The objects that git lists (git-rev-list, "--objects"), one in each line. The line of a commit
-- has only its id. The line of another object has a space and a name after the id.
use Rattle.std.specs.Prelude.{◌≡◌, ℕ, ◌==◌, ⊤, Bool, true, false, if◌then◌else◌, List, [], ◌∷◌, ◌++◌, take, length, codes, Option, Some, None, option_map, option_and_then}
use Rattle.std.specs.List.{fold, position, slice_split}
use Rattle.std.specs.FinMap as finite
use Rattle.gix_protocol.specs.Hex.{encode_lower}
use Rattle.gix_protocol.specs.Object.{Objects}
use Rattle.gix_protocol.specs.ObjectKindType.{ObjectKind}
use Rattle.gix_protocol.specs.ObjectKindType.TheVariants.{Commit, Tag}
use Rattle.gix_protocol.specs.Repository.{PeeledRef, named_id, with_kind, with_ref}
use Rattle.gixp_remote_session.specs.declared.repository.ListedObject.{ListedObject}
use Rattle.gixp_remote_session.specs.declared.error.Error.{Error}
use Rattle.gixp_remote_session.specs.declared.error.Error.TheVariants.{Other, Memory}

abbrev pub cut_id : List ℕ → Option ℕ → List ℕ × Bool
cut_id line None = (line, true)
cut_id line (Some at) = (take at line, false)

-- the text before the first space (32), and whether the object is a commit
abbrev pub id_text : List ℕ → List ℕ × Bool
id_text line = cut_id line (position (λ b. b == 32) line)

abbrev pub listed_object : List ℕ × Bool → Option ListedObject
listed_object p = option_map (λ id. record { id = id; is_commit = p.1 }) (named_id p.0)

-- the object of a line; an empty line has none, as after the last line feed
abbrev pub listed_line : List ℕ → Option (List ListedObject)
listed_line line = if length line == 0 then Some [] else option_map (λ s. s ∷ []) (listed_object (id_text line))

-- the objects of all lines; none if a line has no id
abbrev pub listed_lines : List (List ℕ) → Option (List ListedObject)
listed_lines [] = Some []
listed_lines (line ∷ rest) = option_and_then (λ first. option_map (λ more. first ++ more) (listed_lines rest)) (listed_line line)

abbrev pub listed_objects : List ℕ → Option (List ListedObject)
listed_objects text = listed_lines (slice_split (λ b. b == 10) text)

-- why there are no objects
abbrev pub ErrorIsUnlisted : {A : Type 0} → Option A → Error → Type 0
ErrorIsUnlisted listed (Other why) = (listed ≡ None) × (why.now ≡ codes "the repository can't be read")
ErrorIsUnlisted listed Memory = ⊤
ErrorIsUnlisted listed _ = ⊥

-- any object that isn't a commit counts as a tag: it is never a have
abbrev pub object_kind : Bool → ObjectKind
object_kind is_commit = if is_commit then Commit else Tag

abbrev pub with_listed : Objects → ListedObject → Objects
with_listed objects s = with_kind objects s.id (object_kind s.is_commit)

-- the objects that are present
abbrev pub objects_of_list : List ListedObject → Objects
objects_of_list listed = fold with_listed finite.empty listed

-- a ref to each commit, whose name is its id
abbrev pub with_commit : List PeeledRef → ListedObject → List PeeledRef
with_commit refs s =
    if s.is_commit then with_ref refs (record { name = encode_lower s.id.bytes; id = s.id; peeled = s.id }) else refs

abbrev pub refs_of_list : List ListedObject → List PeeledRef
refs_of_list listed = fold with_commit [] listed
