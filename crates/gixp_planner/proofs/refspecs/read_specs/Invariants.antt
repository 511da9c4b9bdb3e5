use Rattle.std.proofs.Common.{map, drop}
use Rattle.bstr.specs.Owned.{bstring_bytes}
use Rattle.gixp_refspec.specs.RefSpec.{owned_value_of}
use Rattle.gixp_planner.proofs.ListLemmas.{SpecsSoFar}
use Rattle.gixp_planner.proofs.refspecs.read_specs.Given as goal

abbrev pub invariant-loop-text : goal.invariant-loop-text
invariant-loop-text l = SpecsSoFar (map bstring_bytes l.texts) (map bstring_bytes (drop l.text-index l.texts))
    (map owned_value_of l.specs.items)
