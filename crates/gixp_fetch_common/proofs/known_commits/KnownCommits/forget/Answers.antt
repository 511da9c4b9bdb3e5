-- One id leaves.
use Rattle.std.proofs.Common.{◌≡◌, true, Some, subst, sym, rules}
use Rattle.gixp_fetch_common.proofs.KnownLemmas.{removed, left_fewer, left_gone, there_in}
use Rattle.gixp_fetch_common.specs.KnownCommits.{is_awaited}
use Rattle.gixp_fetch_common.proofs.known_commits.KnownCommits.forget.Goals as goal

pub returns-in-Some-clause-others : goal.returns-in-Some-clause-others
returns-in-Some-clause-others c q h =
    let same : c.args.self.now.awaited ≡ Some c.in-Some.awaited = search rules in
    removed c.args.id.now q _ _ (c.remove.ensures.updates.0 q) (there_in _ _ q same h)

pub returns-in-Some-clause-fewer : goal.returns-in-Some-clause-fewer
returns-in-Some-clause-fewer c q h =
    let same : c.args.self.now.awaited ≡ Some c.in-Some.awaited = search rules in
    subst (λ o. is_awaited o q ≡ true) (sym same) (left_fewer c.args.id.now q _ _ (c.remove.ensures.updates.0 q) h)

pub returns-in-Some-clause-gone : goal.returns-in-Some-clause-gone
returns-in-Some-clause-gone c = left_gone c.args.id.now _ _ (c.remove.ensures.updates.0 c.args.id.now)
