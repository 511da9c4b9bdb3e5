use Rattle.std.proofs.Common.{◌≡◌, map, take}
use Rattle.std.specs.List.{flat_map}
use Rattle.gixp_refspec.specs.Matching.{prefixes_of}
use Rattle.gixp_refspec.specs.RefSpec.{value_of}
use Rattle.gixp_refspec.specs.Texts.{texts}
use Rattle.gixp_records.proofs.spec_text.prefixes_of.Given as goal

abbrev pub invariant-loop-spec : goal.invariant-loop-spec
invariant-loop-spec l = texts l.prefixes ≡ flat_map prefixes_of (map value_of (take l.spec-index l.specs))
