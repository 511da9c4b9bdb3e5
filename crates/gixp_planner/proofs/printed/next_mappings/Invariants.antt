use Rattle.std.proofs.Common.{◌≡◌, ◌≤◌, ◌++◌, length, reverse}
use Rattle.std.specs.Vec.{vec_capacity}
use Rattle.gixp_planner.proofs.printed.next_mappings.Given as goal

-- the mappings so far, and those that are left
abbrev pub invariant-part : goal.invariant-part
invariant-part l = (l.part.items ++ reverse l.later.items ≡ reverse l.fn.later.items) × (512 ≤ vec_capacity l.part)

abbrev pub decreases-part : goal.decreases-part
decreases-part l = length l.later.items
