use Rattle.std.proofs.Common.{◌≡◌, ℕ, List, ◌++◌, length}
use Rattle.std.specs.List.{AllZip}
use Rattle.gixp_shallow.specs.ShallowText.{lines, IsIdOf}
use Rattle.gixp_shallow.proofs.text.line_ids.Given as goal

abbrev pub invariant-loop-rest : goal.invariant-loop-rest
invariant-loop-rest l = (before : List (List ℕ)) × (lines l.fn.text ≡ before ++ lines l.rest) × AllZip IsIdOf before l.ids.items

abbrev pub decreases-loop-rest : goal.decreases-loop-rest
decreases-loop-rest l = length l.rest
