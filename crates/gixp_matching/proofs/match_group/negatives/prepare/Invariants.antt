use Rattle.std.proofs.Common.{◌≡◌, ℕ, List, take}
use Rattle.std.specs.List.{list_any}
use Rattle.gixp_matching.specs.Mappings.{excludes}
use Rattle.gixp_matching.specs.MatchGroup.{values}
use Rattle.gixp_matching.specs.Rows.{is_any}
use Rattle.gixp_matching.proofs.match_group.negatives.prepare.Given as goal

abbrev pub invariant-specs : goal.invariant-specs
invariant-specs l = (name : List ℕ) → is_any l.names.items l.others.items name
    ≡ list_any (excludes name) (take l.spec-index (values l.specs))
