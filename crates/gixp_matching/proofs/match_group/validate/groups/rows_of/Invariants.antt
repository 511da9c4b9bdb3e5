use Rattle.std.proofs.Common.{◌≡◌, take, map}
use Rattle.std.specs.List.{flat_map}
use Rattle.gixp_matching.specs.Groups.{shown, numbered}
use Rattle.gixp_matching.proofs.match_group.validate.groups.rows_of.Given as goal

abbrev pub invariant-mappings : goal.invariant-mappings
invariant-mappings g l =
    map (shown g.M.AsMapping.mapped) l.rows.items ≡ flat_map numbered (take l.mapping-index (map g.M.AsMapping.mapped l.mappings))
