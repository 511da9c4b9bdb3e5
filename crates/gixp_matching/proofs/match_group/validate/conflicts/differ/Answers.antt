-- Comparing with the first is enough.
use Rattle.std.proofs.Common.{◌∙◌, ap, sym}
use Rattle.gixp_matching.specs.Groups.{lent}
use Rattle.gixp_matching.specs.Validation.{differ}
use Rattle.gixp_matching.proofs.DifferLemmas.{differ-first}
use Rattle.gixp_packetline.proofs.ListLemmas.{any_of_map}
use Rattle.gixp_matching.proofs.match_group.validate.conflicts.differ.Goals as goal

pub returns-in-Some : goal.returns-in-Some
returns-in-Some g c =
    let f = g.M.AsMapping.mapped in
    c.any_other.ensures ∙ sym (any_of_map _ (λ m. f m.now) c.in-Some.rest.now)
    ∙ differ-first (f c.in-Some.first.now.now) (lent f c.in-Some.rest.now)
    ∙ ap (λ group. differ (lent f group)) (sym c.in-Some.ensures.cases.0)
