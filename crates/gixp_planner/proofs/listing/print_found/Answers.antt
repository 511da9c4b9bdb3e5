use Rattle.gixp_planner.proofs.ListedRefsLemmas.{found-prints, found-memory}
use Rattle.gixp_planner.proofs.listing.print_found.Goals as goal

pub returns-in-Ok-print_ref : goal.returns-in-Ok-print_ref
returns-in-Ok-print_ref c = found-prints _ _ _ c.in-Ok.found c.in-Ok.ensures c.in-Ok-print_ref.ensures

pub returns-in-Err-print_ref : goal.returns-in-Err-print_ref
returns-in-Err-print_ref c = found-memory _ c.in-Ok.found c.in-Ok.ensures
