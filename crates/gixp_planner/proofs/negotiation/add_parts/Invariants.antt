use Rattle.std.proofs.Common.{◌≡◌, true, false, codes, length}
use Rattle.gixp_requests.specs.Arguments.{can_use}
use Rattle.gixp_negotiate.specs.Wants.{request_lines, Adding}
use Rattle.gixp_planner.specs.Printed.{left_of, taken_text}
use Rattle.gixp_planner.proofs.negotiation.add_parts.Given as goal

-- the lines of the parts so far were added, and the same is printed
abbrev pub invariant-parts : goal.invariant-parts
invariant-parts g l =
    Adding (request_lines (λ _. false) (g.O.Objects.contents l.objects) (can_use (codes "ref-in-want") l.fn.arguments) true
    (left_of l.fn.printed) l.known) (request_lines (λ _. false) (g.O.Objects.contents l.objects)
    (can_use (codes "ref-in-want") l.fn.arguments) true (left_of l.printed) l.rest) l.any l.fn.arguments l.arguments
    × (taken_text l.printed ≡ taken_text l.fn.printed)

abbrev pub decreases-parts : goal.decreases-parts
decreases-parts g l = length l.printed.later.items
