use Rattle.gixp_planner.proofs.ListedRefsLemmas.{written-prints, written-memory}
use Rattle.gixp_planner.proofs.listing.print_line.Goals as goal

pub returns-in-Ok : goal.returns-in-Ok
returns-in-Ok c = written-prints _ c.in-Some.written.now _ _ c.in-Some.ensures c.in-Ok.ensures.all

pub returns-in-Err : goal.returns-in-Err
returns-in-Err c = written-memory _ c.in-Some.written.now c.in-Some.ensures
