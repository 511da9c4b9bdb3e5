-- The conflicts of the groups so far, for each name, and the index after their mappings.
use Rattle.std.proofs.Common.{[], ◌≡◌, take, length, map}
use Rattle.bstr.specs.Owned.{bstring_bytes}
use Rattle.gixp_matching.specs.Found.{AddsConflicts, found_in_groups}
use Rattle.gixp_matching.specs.Groups.{grouped}
use Rattle.gixp_matching.specs.Validate.{conflicts_in}
use Rattle.gixp_matching.proofs.match_group.validate.conflicts.conflicts_of_groups.Given as goal

abbrev pub invariant-groups : goal.invariant-groups
invariant-groups g l =
    AddsConflicts (found_in_groups g.M.AsMapping.mapped (map bstring_bytes l.texts) (take l.group-index l.groups)) []
    (conflicts_in l.issues)
    × (l.start ≡ length (grouped (take l.group-index l.groups)))
