-- Of two entries the newer one stays apart from the map.
use Rattle.std.proofs.Common.{◌∙◌, ℤ, ◌∷◌, ◌++◌, sym, ap, subst}
use Rattle.std.specs.List.Sorted.{IsPermutation}
use Rattle.std.proofs.lemmas.Int.{to_z-of_z}
use mir.Syntax.{w64}
use Rattle.gixp_graph.specs.Queue.{entry_at, first_of, IsNewest}
use Rattle.gixp_graph.proofs.TimesLemmas.{pushed_beside, newest_beside}
use Rattle.gixp_graph.proofs.queue.TimeQueue.push.Goals as goal

pub invariant_of-self-2 : goal.invariant_of-self-2
invariant_of-self-2 c =
    newest_beside _ c.in-Some.newest c.newer_first.result.0 c.newer_first.result.1 c.self.inside.others c.push-2.new.self
    c.newer_first.ensures.both c.in_ok-push.ensures c.newer_first.ensures.newer
    (subst (λ o. IsNewest o c.self.inside.others) c.in-Some.is c.self.invariant)

pub returns : goal.returns
returns c =
    let others = c.self.inside.others in
    let first = c.newer_first.result.0 in
    let was = ap (λ o. first_of o ++ others) (sym c.in-Some.is) ∙ c.self.view_is in
    subst (λ v. IsPermutation (entry_at c.args.time c.args.number ∷ v) (first ∷ c.push-2.new.self)) was
    (subst (λ (z : ℤ). IsPermutation (entry_at z c.args.number ∷ c.in-Some.newest ∷ others) (first ∷ c.push-2.new.self))
    (to_z-of_z w64 c.args.time c.ranges.time)
    (pushed_beside _ c.in-Some.newest first c.newer_first.result.1 others c.push-2.new.self c.newer_first.ensures.both
    c.in_ok-push.ensures))
