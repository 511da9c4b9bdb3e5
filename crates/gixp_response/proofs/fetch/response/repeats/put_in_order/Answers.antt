-- The closure compares by the order of rows.
use Rattle.std.proofs.Common.{◌≡◌, ap, rules}
use Rattle.std.specs.Ordering.{is_lt}
use Rattle.std.proofs.lemmas.Fn.{always_returns_same}
use Rattle.std.proofs.lemmas.List.Sorted.{ranks_by}
use Rattle.gixp_response.specs.RepeatedCommons.{row_cmp}
use Rattle.gixp_response.proofs.FrontLemmas.{rows_total}
use Rattle.gixp_response.proofs.fetch.response.repeats.put_in_order.Goals as goal

pub returns-clause-sorted : goal.returns-clause-sorted
returns-clause-sorted c =
    c.sort_unstable_by.ensures.sorted (λ a b. is_lt (row_cmp a b)) (ranks_by rows_total (λ row. row))
    (always_returns_same _ _ _ (λ a r f' k.
    let each : (r ≡ row_cmp a.0.now a.1.0.now) × (f' ≡ _) = search rules in
    (ap is_lt each.0, each.1)))
