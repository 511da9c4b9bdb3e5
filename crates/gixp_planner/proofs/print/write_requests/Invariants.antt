use Rattle.std.proofs.Common.{◌++◌, map, vec_items, drop}
use Rattle.gixp_planner.specs.Text.{requests_after, requests_shown}
use Rattle.gixp_planner.specs.Written.{WritesPart}
use Rattle.gixp_planner.proofs.print.write_requests.Given as goal

abbrev pub invariant-loop-place : goal.invariant-loop-place
invariant-loop-place g l = WritesPart (g.W.Write.contents l.fn.writer) (g.W.Write.contents l.writer)
    (l.pending.items ++ requests_after l.place (map vec_items (drop l.place l.fn.requests)))
    (l.fn.pending.items ++ requests_shown (map vec_items l.fn.requests))
