-- The lines so far and those of the rest are all lines.
use Rattle.std.proofs.Common.{◌≡◌, ◌++◌, map, length, drop}
use Rattle.gixp_plain_requests.specs.Lines.{lines_of, size_of_lines, FitLines}
use Rattle.gixp_plain_requests.proofs.request.first_lines.Given as goal

abbrev pub invariant-loop-line : goal.invariant-loop-line
invariant-loop-line l = record {
  lines : map (λ x. x.now) l.lines.items ++ lines_of l.rest ≡ lines_of l.fn.request;
  fit : FitLines l.lines.items;
  rest : l.rest ≡ drop (size_of_lines (map (λ x. x.now) l.lines.items)) l.fn.request;
}

abbrev pub decreases-loop-line : goal.decreases-loop-line
decreases-loop-line l = length l.rest
