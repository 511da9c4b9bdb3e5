-- The rows that are left, and the groups of the others.
use Rattle.std.proofs.Common.{◌≤◌, ◌-◌, length, drop}
use Rattle.gixp_matching.proofs.GroupLemmas.{IsLeft}
use Rattle.gixp_matching.proofs.match_group.validate.groups.several_of.Given as goal

abbrev pub invariant-loop-first : goal.invariant-loop-first
invariant-loop-first g l = (l.start ≤ length l.rows) × IsLeft l.rows (drop l.start l.rows) l.groups.items

abbrev pub decreases-loop-first : goal.decreases-loop-first
decreases-loop-first g l = length l.rows - l.start
