use Rattle.std.proofs.Common.{inr, refl, ap, ◌∙◌}
use Rattle.gixp_planner.specs.Printed.{printed_text}
use Rattle.gixp_planner.proofs.PrintedLemmas.{all_printed, fetched_printed}
use Rattle.gixp_planner.proofs.session.fetch_mapped.Goals as goal

pub returns-in_default : goal.returns-in_default
returns-in_default g c =
    let made = c.new-printed.ensures in (all_printed c.new-printed.result c.args.map made.map made.texts made.later, inr (refl, refl))

pub returns : goal.returns
returns g c =
    let made = c.new-printed.ensures in
    let over = c.new-negotiation.ensures in
    fetched_printed _ (λ a b n. refl) c.args.map _ _ _ _ _ _ _ _ _ c.new-negotiation.result _ _ _ c.into_printed.result _
    c.fetch_over-fetched.ensures (
      ap (λ p. p.map) over.printed ∙ made.map,
      ap (λ p. p.later.items) over.printed ∙ made.later,
      ap printed_text over.printed ∙ all_printed c.new-printed.result c.args.map made.map made.texts made.later,
    )
    (over.objects, over.graph, over.negotiator, refl, refl, refl, over.alternates.0, over.alternates.1)
    (c.new-boundary.ensures.ids ∙ c.new.ensures.items, c.new-boundary.ensures.locked) c.into_printed.ensures
