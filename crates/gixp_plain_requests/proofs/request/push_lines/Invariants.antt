-- The lines of the kind so far were appended.
use Rattle.std.proofs.Common.{◌≡◌, ◌++◌, map, take}
use Rattle.gixp_plain_requests.specs.Request.{of_kind, texts_of_lines}
use Rattle.gixp_plain_requests.proofs.request.push_lines.Given as goal

abbrev pub invariant-loop-line : goal.invariant-loop-line
invariant-loop-line l = l.sent.items ≡ l.fn.sent.items ++ texts_of_lines (of_kind l.kind (map (λ x. x.now) (take l.line-index l.lines)))
