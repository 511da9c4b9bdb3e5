use Rattle.std.proofs.Common.{◌≡◌, map, take}
use Rattle.gixp_refspec.specs.RefSpec.{value_of, owned_value_of}
use Rattle.gixp_engine.proofs.read.owned_specs.Given as goal

abbrev pub invariant-loop-spec : goal.invariant-loop-spec
invariant-loop-spec l = map owned_value_of l.owned.items ≡ map value_of (take l.spec-index l.specs)
