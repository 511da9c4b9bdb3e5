-- The update of the local ref of a mapping (git-fetch, "<refspec>" and "--tags").
use Rattle.std.specs.Prelude.{◌≡◌, ℕ, nat_eq, Bool, true, false, not, ◌&&◌, ◌||◌, if◌then◌else◌, List, codes, Option, Some, None, is_some}
use Rattle.std.specs.Option.{option_map}
use Rattle.std.specs.Bool.{MatchBool}
use Rattle.std.specs.List.{list_any, starts_with, AllZip}
use Rattle.std.specs.Str.{bytes_eq}
use Rattle.std.specs.Ordering.{nat_cmp}
use Rattle.std.specs.Cmp.Lexicographic.{slice_cmp}
use Rattle.std.specs.FinMap as finite
use Rattle.std.specs.FinMap.{FinMap}
use Rattle.bstr.specs.declared.bstring.BString.{BString}
use Rattle.bstr.specs.Owned.{bstring_bytes}
use Rattle.gixp_hash.specs.declared.object_id.ObjectId.{ObjectId}
use Rattle.gixp_graph.specs.declared.objects.ObjectKind.{ObjectKind}
use Rattle.gixp_graph.specs.declared.objects.ObjectKind.TheVariants.{Commit as a_commit, Tree, Blob, Tag}
use Rattle.gixp_graph.specs.Object.{Objects, commit_at, kind_at}
use Rattle.gixp_refspec.specs.declared.spec.Sign.{Sign}
use Rattle.gixp_refspec.specs.declared.spec.Sign.TheVariants.{Plain, Force, Exclude}
use Rattle.gixp_refspec.specs.declared.spec.RefSpec.{RefSpec}
use Rattle.gixp_refspec.specs.Name.{is_partial_name}
use Rattle.gixp_refspec.specs.Spec.{Spec, is_forced}
use Rattle.gixp_refspec.specs.RefSpec.{owned_value_of}
use Rattle.gixp_refmap.specs.declared.fetch.Tags.{Tags}
use Rattle.gixp_refmap.specs.declared.fetch.Tags.TheVariants.{All, Included, None as no_tags}
use Rattle.gixp_refmap.specs.declared.refmap.mapping.Mapping.{Mapping}
use Rattle.gixp_refmap.specs.Mapping.{source_id, spec_at, implicit_of}
use Rattle.gixp_updates.specs.Ancestors.{IsAncestor}
use Rattle.gixp_updates.specs.declared.refs.update.Mode.{Mode}
use Rattle.gixp_updates.specs.declared.refs.update.Mode.TheVariants.{NoChangeNeeded, FastForward, Forced, New, ImplicitTagNotSentByRemote, RejectedSourceObjectNotFound, RejectedTagUpdate, RejectedNonFastForward, RejectedToReplaceWithUnborn, RejectedCurrentlyCheckedOut, RejectedUnsafeName, RejectedNonCommit}
use Rattle.gixp_updates.specs.declared.refs.mode.Wanted.{Wanted}
use Rattle.gixp_updates.specs.declared.refs.edit.Edit.{Edit}
use Rattle.gixp_updates.specs.declared.refs.edit.Update.{Update}

-- a repository: its refs that have an id, its objects, the commits that can be looked up, and the branches of its work trees
pub record LocalSide : Type 0 where
  pub refs : FinMap (slice_cmp nat_cmp) ObjectId
  pub objects : Objects
  pub commits : Objects
  pub is_checked_out : List ℕ → Bool

-- a refspec without a sign
abbrev pub is_plain : Sign → Bool
is_plain Plain = true
is_plain Force = false
is_plain Exclude = false

-- the other text exists and is equal
abbrev pub is_text : List ℕ → Option (List ℕ) → Bool
is_text text None = false
is_text text (Some other) = bytes_eq other text

-- `refs/tags/*:refs/tags/*`
abbrev pub is_tags_spec : Spec → Bool
is_tags_spec s = is_plain s.sign && bytes_eq s.source (codes "refs/tags/*") && is_text (codes "refs/tags/*") s.destination

-- tags are written if their objects exist
abbrev pub includes : Tags → Bool
includes All = false
includes Included = true
includes no_tags = false

-- the test holds for the refspec, if it exists
abbrev pub holds_at : (Spec → Bool) → Option RefSpec → Bool
holds_at test None = false
holds_at test (Some s) = test (owned_value_of s)

-- the wanted change of a mapping's local ref, by tags and refspecs: its new id, whether the refspec begins with `+`, and
-- whether it is a tag that is written only if its object exists
abbrev pub wanted_of : Tags → List RefSpec → List RefSpec → Mapping → Wanted
wanted_of tags explicit extra m = record {
  id = source_id m.remote;
  is_forced = holds_at (λ s. is_forced s.sign) (spec_at m.spec_index explicit extra);
  is_implicit_tag = includes tags && is_some (implicit_of m.spec_index) && holds_at is_tags_spec (spec_at m.spec_index explicit extra);
}

-- a local name that may be written: it begins with `refs/` and is valid
abbrev pub is_writable : List ℕ → Bool
is_writable name = starts_with nat_eq name (codes "refs/") && is_partial_name name

abbrev pub is_tag_name : List ℕ → Bool
is_tag_name name = starts_with nat_eq name (codes "refs/tags/")

abbrev pub is_branch_name : List ℕ → Bool
is_branch_name name = starts_with nat_eq name (codes "refs/heads/")

abbrev pub is_among : List BString → List ℕ → Bool
is_among names name = list_any (λ (other : BString). bytes_eq (bstring_bytes other) name) names

abbrev pub is_commit : Objects → ObjectId → Bool
is_commit commits id = is_some (commit_at commits id)

-- the object is a tree or a blob, so no commit is lost with it; for an annotated tag that isn't known
abbrev pub is_tree_or_blob : Option ObjectKind → Bool
is_tree_or_blob None = false
is_tree_or_blob (Some a_commit) = false
is_tree_or_blob (Some Tree) = true
is_tree_or_blob (Some Blob) = true
is_tree_or_blob (Some Tag) = false

-- a ref moves between commits: a fast-forward if the old one is an ancestor of the new one, otherwise only with force
abbrev pub ByAncestry : Objects → Bool → ObjectId → ObjectId → Mode → Type 0
ByAncestry commits forced old new FastForward = IsAncestor (commit_at commits) new old
ByAncestry commits forced old new Forced = (IsAncestor (commit_at commits) new old → ⊥) × (forced ≡ true)
ByAncestry commits forced old new RejectedNonFastForward = (IsAncestor (commit_at commits) new old → ⊥) × (forced ≡ false)
ByAncestry commits forced old new _ = ⊥

-- a ref gets another id. Tags move only with force, branches only to commits. A tree or a blob may replace any object and be
-- replaced by any; other objects only with force
abbrev pub Moves : Objects → Objects → Bool → List ℕ → ObjectId → ObjectId → Mode → Type 0
Moves objects commits forced name old new mode =
    MatchBool (is_tag_name name) (mode ≡ (if forced then Forced else RejectedTagUpdate))
    (MatchBool (is_branch_name name && not (is_commit commits new)) (mode ≡ RejectedNonCommit)
    (MatchBool (is_commit commits old && is_commit commits new) (ByAncestry commits forced old new mode)
    (mode ≡ (if forced || is_tree_or_blob (kind_at objects old) || is_tree_or_blob (kind_at objects new) then Forced
    else RejectedNonFastForward))))

-- the mode of a new ref
abbrev pub made : Objects → List ℕ → ObjectId → Mode
made commits name new = if is_branch_name name && not (is_commit commits new) then RejectedNonCommit else New

-- the mode by the current id of the ref
abbrev pub ByOld : Objects → Objects → Bool → List ℕ → Option ObjectId → ObjectId → Mode → Type 0
ByOld objects commits forced name None new mode = mode ≡ made commits name new
ByOld objects commits forced name (Some old) new mode =
    MatchBool (bytes_eq old.bytes new.bytes) (mode ≡ NoChangeNeeded) (Moves objects commits forced name old new mode)

-- the mode if the new object is missing
abbrev pub not_there : Bool → ObjectId → Mode
not_there is_implicit_tag id = if is_implicit_tag then ImplicitTagNotSentByRemote else RejectedSourceObjectNotFound id

-- the mode by the new id of the ref
abbrev pub ByNew : LocalSide → Wanted → List ℕ → Option ObjectId → Mode → Type 0
ByNew l w name None mode = mode ≡ (if is_some (finite.get l.refs name) then RejectedToReplaceWithUnborn else NoChangeNeeded)
ByNew l w name (Some new) mode = MatchBool (finite.contains_key l.objects new)
    (ByOld l.objects l.commits w.is_forced name (finite.get l.refs name) new mode) (mode ≡ not_there w.is_implicit_tag new)

-- the mode by the local name
abbrev pub IsMode : LocalSide → Wanted → Option (List ℕ) → Mode → Type 0
IsMode l w None mode = mode ≡ NoChangeNeeded
IsMode l w (Some name) mode = MatchBool (is_writable name)
    (MatchBool (l.is_checked_out name) (mode ≡ RejectedCurrentlyCheckedOut) (ByNew l w name w.id mode)) (mode ≡ RejectedUnsafeName)

-- the modes with which a ref is written
abbrev pub writes : Mode → Bool
writes FastForward = true
writes Forced = true
writes New = true
writes _ = false

-- the modes with which a ref stays although the mapping wants to change it
abbrev pub is_rejected : Mode → Bool
is_rejected (RejectedSourceObjectNotFound id) = true
is_rejected RejectedTagUpdate = true
is_rejected RejectedNonFastForward = true
is_rejected RejectedToReplaceWithUnborn = true
is_rejected RejectedCurrentlyCheckedOut = true
is_rejected RejectedUnsafeName = true
is_rejected RejectedNonCommit = true
is_rejected _ = false

-- the modes for which `git fetch` exits with a status other than 0; an invalid name is skipped, and isn't a failure
abbrev pub is_failure : Mode → Bool
is_failure RejectedUnsafeName = false
is_failure mode = is_rejected mode

-- the same by the wanted change: a tag that is written only if its object exists is skipped by `git fetch` if the tag exists
abbrev pub fails_as : Wanted → Mode → Bool
fails_as w mode = is_failure mode && not w.is_implicit_tag

-- the change of a ref: its new id, and the current one
abbrev pub edit_to : FinMap (slice_cmp nat_cmp) ObjectId → Option (List ℕ) → Option ObjectId → Option Edit
edit_to refs (Some name) (Some new) = Some (record { previous = finite.get refs name; new = new })
edit_to refs (Some name) None = None
edit_to refs None new = None

abbrev pub edit_of : LocalSide → Wanted → Option (List ℕ) → Mode → Option Edit
edit_of l w name mode = if writes mode then edit_to l.refs name w.id else None

-- the update of a mapping
pub record IsUpdate (l : LocalSide) (w : Wanted) (name : Option (List ℕ)) (u : Update) : Type 0 where
  pub mode : IsMode l w name u.mode
  pub edit : u.edit ≡ edit_of l w name u.mode

-- the updates of mappings, in order
abbrev pub AreUpdates : LocalSide → Tags → List RefSpec → List RefSpec → List Mapping → List Update → Type 0
AreUpdates l tags explicit extra ms us =
    AllZip (λ (m : Mapping) u. IsUpdate l (wanted_of tags explicit extra m) (option_map bstring_bytes m.local) u) ms us
