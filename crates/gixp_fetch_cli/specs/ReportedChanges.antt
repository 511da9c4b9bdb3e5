-- Which changes of the local refs are reported.
use Rattle.std.specs.Prelude.{◌≡◌, Bool, true, false, List, [], Option}
use Rattle.std.specs.Cmp.Lexicographic.{slice_cmp}
use Rattle.std.specs.FinMap.{FinMap}
use Rattle.std.specs.Ordering.{nat_cmp}
use Rattle.gix_protocol.specs.Modes.{LocalSide, is_among}
use Rattle.gix_protocol.specs.Object.{Objects}
use Rattle.gix_protocol.specs.ObjectIdType.{ObjectId}
use Rattle.gix_protocol.specs.RefMapType.{RefMap}
use Rattle.gix_protocol.specs.TagsType.{Tags}
use Rattle.gixp_fetch_cli.specs.Changes.{AreChanges}
use Rattle.gixp_fetch_cli.specs.declared.change.Change.{Change}
use Rattle.gixp_fetch_common.specs.declared.haves.Haves.{Haves}
use Rattle.gixp_fetch_common.specs.declared.haves.Haves.TheVariants.{By, InOrder}

-- the refs and the objects before the fetch, with no ref checked out
abbrev pub local_side : FinMap (slice_cmp nat_cmp) ObjectId → Objects → LocalSide
local_side refs objects = record { refs = refs; objects = objects; commits = objects; is_checked_out = is_among [] }

-- the commits are known, instead of read as they are offered
abbrev pub knows_commits : Haves → Bool
knows_commits (By algorithm) = true
knows_commits InOrder = false

-- the changes are reported where the refs and the commits are known, and none otherwise
abbrev pub ReportsChanges : Bool → LocalSide → Tags → RefMap → List (Option Change) → Type 0
ReportsChanges true local tags map changes =
    AreChanges local tags map.refspecs.items map.extra_refspecs.items map.mappings.items changes
ReportsChanges false local tags map changes = changes ≡ []
