-- The changes of local refs, as far as the refs and the commits before a fetch determine them (git-fetch, "Output").
use Rattle.std.specs.Prelude.{◌≡◌, ℕ, if◌then◌else◌, List, map, Option, Some, None, slice_get}
use Rattle.std.specs.Option.{option_map}
use Rattle.std.specs.List.{zip}
use Rattle.std.specs.Str.{bytes_eq}
use Rattle.std.specs.Ordering.{nat_cmp}
use Rattle.std.specs.Cmp.Lexicographic.{slice_cmp}
use Rattle.std.specs.FinMap as finite
use Rattle.std.specs.FinMap.{FinMap}
use Rattle.bstr.specs.Owned.{bstring_bytes}
use Rattle.gixp_hash.specs.declared.object_id.ObjectId.{ObjectId}
use Rattle.gixp_refspec.specs.declared.spec.RefSpec.{RefSpec}
use Rattle.gixp_refmap.specs.declared.fetch.Tags.{Tags}
use Rattle.gixp_refmap.specs.declared.refmap.mapping.Mapping.{Mapping}
use Rattle.gixp_updates.specs.declared.refs.update.Mode.{Mode}
use Rattle.gixp_updates.specs.declared.refs.update.Mode.TheVariants.{NoChangeNeeded, FastForward as IsFastForward, Forced as IsForced, New as IsNew, ImplicitTagNotSentByRemote, RejectedSourceObjectNotFound}
use Rattle.gixp_updates.specs.declared.refs.edit.Update.{Update}
use Rattle.gixp_updates.specs.Modes.{LocalSide, AreUpdates}
use Rattle.gixp_fetch_cli.specs.declared.change.Change.{Change}
use Rattle.gixp_fetch_cli.specs.declared.change.Change.TheVariants.{New, FastForward, Forced, Same, Refused}

-- a ref whose new object isn't in the repository: the ref is created, or has the object already; else the move isn't known yet
abbrev pub unseen_change : (held : Option ObjectId) → ObjectId → Option Change
unseen_change None new = Some New
unseen_change (Some old) new = if bytes_eq old.bytes new.bytes then Some Same else None

-- by the mode of the update without the pack. A tag that the server adds may or may not be in the pack
abbrev pub change_by : (held : Option ObjectId) → Mode → Option Change
change_by held NoChangeNeeded = Some Same
change_by held IsFastForward = Some FastForward
change_by held IsForced = Some Forced
change_by held IsNew = Some New
change_by held ImplicitTagNotSentByRemote = None
change_by held (RejectedSourceObjectNotFound id) = unseen_change held id
change_by held _ = Some Refused

-- a mapping without a local name has no change
abbrev pub named_change : FinMap (slice_cmp nat_cmp) ObjectId → Option (List ℕ) → Mode → Option Change
named_change refs None mode = None
named_change refs (Some name) mode = change_by (finite.get refs name) mode

abbrev pub change_of : FinMap (slice_cmp nat_cmp) ObjectId → Mapping × Update → Option Change
change_of refs p = named_change refs (option_map bstring_bytes p.0.local) p.1.mode

-- the changes of some mappings, in order
pub record AreChanges (l : LocalSide) (tags : Tags) (explicit extra : List RefSpec) (ms : List Mapping)
    (changes : List (Option Change)) : Type 0 where
  pub updates : List Update
  pub are : AreUpdates l tags explicit extra ms updates
  pub words : changes ≡ map (change_of l.refs) (zip ms updates)

-- the change at an index
abbrev pub known_change : Option (Option Change) → Option Change
known_change (Some change) = change
known_change None = None

abbrev pub change_in : List (Option Change) → ℕ → Option Change
change_in changes place = known_change (slice_get changes place)
