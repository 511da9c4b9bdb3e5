use Rattle.gixp_planner.proofs.ListedRefsLemmas.{Printed}
use Rattle.gixp_planner.proofs.listing.print_refs.Given as goal

abbrev pub invariant-loop-text : goal.invariant-loop-text
invariant-loop-text g l = Printed (g.R.ExtendedBufRead.reading l.fn.lines) (g.R.ExtendedBufRead.reading l.lines) l.text.items

abbrev pub decreases-loop-text : goal.decreases-loop-text
decreases-loop-text g l = (g.R.ExtendedBufRead.reading l.lines).left
