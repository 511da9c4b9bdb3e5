use Rattle.std.proofs.Common.{◌≡◌, take}
use Rattle.std.specs.List.{flat_map}
use Rattle.gixp_refspec.specs.Texts.{texts}
use Rattle.gixp_matching.specs.MatchGroup.{values}
use Rattle.gixp_matching.specs.Sought.{sought_by}
use Rattle.gixp_matching.proofs.match_group.sought.sought_names.Given as goal

abbrev pub invariant-specs : goal.invariant-specs
invariant-specs l = texts l.names ≡ flat_map sought_by (take l.spec-index (values l.specs))
