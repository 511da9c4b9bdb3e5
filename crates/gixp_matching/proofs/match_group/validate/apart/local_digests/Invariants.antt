use Rattle.std.proofs.Common.{◌≡◌, take, map}
use Rattle.std.specs.Prelude.{option_to_list}
use Rattle.std.specs.List.{flat_map}
use Rattle.gixp_matching.specs.Digest.{digest}
use Rattle.gixp_matching.proofs.match_group.validate.apart.local_digests.Given as goal

abbrev pub invariant-mappings : goal.invariant-mappings
invariant-mappings g l =
    l.digests.items ≡ flat_map (λ m. map digest (option_to_list m.local)) (take l.mapping-index (map g.M.AsMapping.mapped l.mappings))
