-- One part of the mappings more.
use Rattle.std.proofs.Common.{◌≡◌, [], false, true, codes, drop, length, reverse, rules, ap, sym, ◌∙◌, subst}
use Rattle.std.proofs.lemmas.Result.{err_from_is_err_and}
use Rattle.gixp_requests.specs.Arguments.{can_use}
use Rattle.gixp_negotiate.specs.Wants.{request_lines, Adding}
use Rattle.gixp_negotiate.proofs.WantLemmas.{adding_all}
use Rattle.gixp_planner.specs.Printed.{left_of}
use Rattle.gixp_planner.proofs.PrintedLemmas.{left_printed, part_added, part_refused, some_added}
use Rattle.gixp_planner.proofs.negotiation.add_parts.Goals as goal

pub returns-in_err-more-clause-refused : goal.returns-in_err-more-clause-refused
returns-in_err-more-clause-refused g c =
    let p = err_from_is_err_and c.from_residual.result c.from_residual.ensures.1 in
    let before = c.parts.printed in
    rw p.1 (part_refused (g.O.Objects.contents c.args.objects.now) _ _ _ _ _ before.map.mappings.items
    (reverse before.later.items) c.parts.rest.now c.parts.invariant.0
    (c.in_err-more.ensures.refused (λ _. false) (λ m b r. search rules)))

pub returns-in_err-print_part-clause-refused : goal.returns-in_err-print_part-clause-refused
returns-in_err-print_part-clause-refused g c =
    let p = err_from_is_err_and c.from_residual-in_err-print_part.result c.from_residual-in_err-print_part.ensures.1 in
    let before = c.parts.printed in
    rw p.1 (some_added _ _ _ _ _ (part_added (g.O.Objects.contents c.args.objects.now) _ _ _ _ _ before.map.mappings.items
    (reverse before.later.items) c.parts.rest.now c.parts.invariant.0 _ c.is_any-any.result c.known_after-rest.result.now
    (c.in_ok-more.ensures.added (λ _. false) (λ m b r. search rules)) c.is_any-any.ensures
    (c.known_after-rest.ensures ∙ ap (λ ms. drop (length ms) c.parts.rest.now) c.deref.ensures.value)))

pub returns-in_err-next_part-clause-refused : goal.returns-in_err-next_part-clause-refused
returns-in_err-next_part-clause-refused g c =
    let p = err_from_is_err_and c.from_residual-in_err-next_part.result c.from_residual-in_err-next_part.ensures.1 in
    let before = c.parts.printed in
    rw p.1 (some_added _ _ _ _ _ (part_added (g.O.Objects.contents c.args.objects.now) _ _ _ _ _ before.map.mappings.items
    (reverse before.later.items) c.parts.rest.now c.parts.invariant.0 _ c.is_any-any.result c.known_after-rest.result.now
    (c.in_ok-more.ensures.added (λ _. false) (λ m b r. search rules)) c.is_any-any.ensures
    (c.known_after-rest.ensures ∙ ap (λ ms. drop (length ms) c.parts.rest.now) c.deref.ensures.value)))

pub returns-then-not-branch-clause-added : goal.returns-then-not-branch-clause-added
returns-then-not-branch-clause-added g c =
    let before = c.parts.printed in
    let printed = c.print_part.new.self in
    let left : left_of printed ≡ reverse before.later.items =
    left_printed before printed c.in_ok-print_part.ensures.taken c.in_ok-print_part.ensures.later in
    let none : reverse before.later.items ≡ [] =
    sym left ∙ sym c.in_ok-next_part.ensures.left ∙ c.in_ok-next_part.ensures.done (search rules) in
    adding_all _ _ _ _ _ (part_added (g.O.Objects.contents c.args.objects.now) _ _ _ _ _ before.map.mappings.items
    (reverse before.later.items) c.parts.rest.now c.parts.invariant.0 _ c.is_any-any.result c.known_after-rest.result.now
    (c.in_ok-more.ensures.added (λ _. false) (λ m b r. search rules)) c.is_any-any.ensures
    (c.known_after-rest.ensures ∙ ap (λ ms. drop (length ms) c.parts.rest.now) c.deref.ensures.value))
    (ap (λ ms. request_lines (λ _. false) (g.O.Objects.contents c.args.objects.now) (can_use (codes "ref-in-want") c.args.arguments.now) true ms
    c.known_after-rest.result.now) none)

pub parts-preserved : goal.parts-preserved
parts-preserved g c =
    let before = c.parts.printed in
    let printed = c.print_part.new.self in
    let lines = request_lines (λ _. false) (g.O.Objects.contents c.args.objects.now) (can_use (codes "ref-in-want") c.args.arguments.now) true in
    let left : left_of printed ≡ reverse before.later.items =
    left_printed before printed c.in_ok-print_part.ensures.taken c.in_ok-print_part.ensures.later in (
      subst (λ ms. Adding (lines (left_of c.args.printed.now) c.args.known.now) (lines ms c.known_after-rest.result.now)
          c.is_any-any.result c.args.arguments.now c.add_wants.new.arguments) (sym left ∙ sym c.in_ok-next_part.ensures.left)
          (part_added (g.O.Objects.contents c.args.objects.now) _ _ _ _ _ before.map.mappings.items
          (reverse before.later.items) c.parts.rest.now c.parts.invariant.0 _ c.is_any-any.result c.known_after-rest.result.now
          (c.in_ok-more.ensures.added (λ _. false) (λ m b r. search rules)) c.is_any-any.ensures
          (c.known_after-rest.ensures ∙ ap (λ ms. drop (length ms) c.parts.rest.now) c.deref.ensures.value)),
      c.in_ok-next_part.ensures.text ∙ c.in_ok-print_part.ensures.text ∙ c.parts.invariant.1,
    )
