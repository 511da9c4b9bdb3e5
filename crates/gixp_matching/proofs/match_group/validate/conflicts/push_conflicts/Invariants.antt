use Rattle.std.proofs.Common.{take, map}
use Rattle.bstr.specs.Owned.{bstring_bytes}
use Rattle.gixp_matching.specs.Found.{AddsConflicts}
use Rattle.gixp_matching.specs.Groups.{lent}
use Rattle.gixp_matching.specs.Validate.{conflicts_in}
use Rattle.gixp_matching.proofs.FoundLemmas.{found_before}
use Rattle.gixp_matching.proofs.match_group.validate.conflicts.push_conflicts.Given as goal

abbrev pub invariant-mappings : goal.invariant-mappings
invariant-mappings g l =
    let ms = lent g.M.AsMapping.mapped l.mappings in
    AddsConflicts (found_before (map bstring_bytes l.texts) ms (take l.place ms)) (conflicts_in l.initial.issues) (conflicts_in l.issues)
