use Rattle.std.proofs.Common.{map, drop}
use Rattle.bstr.specs.BStr.{bstr_bytes}
use Rattle.gixp_planner.specs.Haves.{bytes_of}
use Rattle.gixp_planner.proofs.ListLemmas.{IdsSoFar}
use Rattle.gixp_planner.proofs.haves.parse_haves.Given as goal

abbrev pub invariant-loop-line : goal.invariant-loop-line
invariant-loop-line l = IdsSoFar (map bstr_bytes l.line-items) (map bstr_bytes (drop l.line-index l.line-items)) (bytes_of l.ids.items)
