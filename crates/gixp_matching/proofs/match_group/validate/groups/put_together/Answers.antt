use Rattle.std.proofs.Common.{rules}
use Rattle.std.proofs.lemmas.Fn.{always_returns_same}
use Rattle.gixp_matching.proofs.TogetherLemmas.{sorted_together, stay_in_order}
use Rattle.gixp_matching.proofs.match_group.validate.groups.put_together.Goals as goal

pub returns-clause-together : goal.returns-clause-together
returns-clause-together g c =
    sorted_together c.sort_by_key.new.self.items
    (c.in_ok-sort_by_key.ensures.sorted (λ row. row.number) (always_returns_same _ _ _ (λ a r q k. search rules)))

pub returns-clause-same : goal.returns-clause-same
returns-clause-same g c =
    stay_in_order c.args.rows.now.items c.sort_by_key.new.self.items
    (c.in_ok-sort_by_key.ensures.stable (λ row. row.number) (always_returns_same _ _ _ (λ a r q k. search rules)))
