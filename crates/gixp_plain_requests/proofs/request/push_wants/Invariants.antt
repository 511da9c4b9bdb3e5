-- The `want` lines so far were appended.
use Rattle.std.proofs.Common.{◌≡◌, ◌++◌, map, take}
use Rattle.gixp_plain_requests.specs.declared.request.LineKind.TheVariants.{Want}
use Rattle.gixp_plain_requests.specs.Request.{sent_want, of_kind, texts_of_lines}
use Rattle.gixp_plain_requests.proofs.request.push_wants.Given as goal

abbrev pub invariant-loop-line : goal.invariant-loop-line
invariant-loop-line l = l.sent.items ≡ l.fn.sent.items
    ++ texts_of_lines (map (sent_want l.missing) (of_kind Want (map (λ x. x.now) (take l.line-index l.lines))))
