-- To mark the remaining rows from these flags gives the flags of all rows.
use Rattle.std.proofs.Common.{◌≡◌, drop}
use Rattle.gixp_utils.specs.Repeats.{marked, marked_after}
use Rattle.gixp_utils.proofs.flags.mark.Given as goal

abbrev pub invariant-rest : goal.invariant-rest
invariant-rest g l =
    marked_after g.K.Ord.cmp l.flags.items l.last (drop l.row-index l.rest) ≡ marked g.K.Ord.cmp l.fn.flags.items l.rows
