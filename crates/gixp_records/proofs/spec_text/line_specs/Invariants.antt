use Rattle.std.proofs.Common.{map, drop}
use Rattle.bstr.specs.Owned.{bstring_bytes}
use Rattle.gixp_refspec.specs.RefSpec.{value_of}
use Rattle.gixp_records.proofs.SpecTextLemmas.{SpecLinesSoFar}
use Rattle.gixp_records.proofs.spec_text.line_specs.Given as goal

abbrev pub invariant-loop-line : goal.invariant-loop-line
invariant-loop-line l = SpecLinesSoFar (map bstring_bytes l.lines) (map bstring_bytes (drop l.line-index l.lines))
    (map value_of l.specs.items)
