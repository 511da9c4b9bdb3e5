use Rattle.std.proofs.Common.{rules}
use Rattle.std.proofs.lemmas.Fn.{always_returns_same}
use Rattle.gixp_matching.proofs.RowLemmas.{named_stays}
use Rattle.gixp_matching.proofs.match_group.rows.sort_by_name.Goals as goal

pub returns-clause-order : goal.returns-clause-order
returns-clause-order c = c.in_ok-sort_by_key.ensures.sorted (λ row. row.name) (always_returns_same _ _ _ (λ a r q k. search rules))

pub returns-clause-same : goal.returns-clause-same
returns-clause-same c =
    named_stays c.args.rows.now.items c.sort_by_key.new.self.items
    (c.in_ok-sort_by_key.ensures.stable (λ row. row.name) (always_returns_same _ _ _ (λ a r q k. search rules)))
