use Rattle.std.proofs.lemmas.Result.{err_from_is_err_and}
use Rattle.gixp_planner.proofs.ListedRefsLemmas.{printed-next, printed-next_refused}
use Rattle.gixp_planner.proofs.listing.print_refs.Goals as goal

pub returns-in_err-print_next : goal.returns-in_err-print_next
returns-in_err-print_next g c = let p = err_from_is_err_and c.from_residual.result c.from_residual.ensures.1 in
    rw (p.1, p.2) (printed-next_refused _ _ _ _ _ c.in_err-print_next.field-0.0 c.loop-text.invariant c.in_err-print_next.ensures)

pub loop-text-preserved : goal.loop-text-preserved
loop-text-preserved g c =
    let k = rw c.if-branch.true at c.in_ok-print_next.ensures in
    printed-next g.R.ExtendedBufRead.is_plain _ _ _ _ _ c.loop-text.invariant k
