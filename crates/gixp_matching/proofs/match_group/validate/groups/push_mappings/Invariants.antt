use Rattle.std.proofs.Common.{◌≡◌, ◌++◌, take}
use Rattle.gixp_matching.specs.Groups.{mappings_of}
use Rattle.gixp_matching.proofs.match_group.validate.groups.push_mappings.Given as goal

abbrev pub invariant-rows : goal.invariant-rows
invariant-rows g l = l.mappings.items ≡ l.initial.mappings.items ++ mappings_of (take l.row-index l.rows)
