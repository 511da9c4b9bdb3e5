use Rattle.std.proofs.Common.{◌≡◌, ◌++◌, length}
use Rattle.gixp_shallow.specs.ShallowText.{text_of}
use Rattle.gixp_shallow.proofs.text.id_lines.Given as goal

abbrev pub invariant-loop-id : goal.invariant-loop-id
invariant-loop-id l = l.text.items ++ text_of l.rest ≡ text_of l.fn.ids

abbrev pub decreases-loop-id : goal.decreases-loop-id
decreases-loop-id l = length l.rest
