use Rattle.std.proofs.Common.{◌≡◌, take}
use Rattle.gixp_matching.specs.Groups.{grouped}
use Rattle.gixp_matching.proofs.match_group.validate.groups.mappings_of.Given as goal

abbrev pub invariant-groups : goal.invariant-groups
invariant-groups g l = l.mappings.items ≡ grouped (take l.group-index l.groups)
