use Rattle.std.proofs.Common.{◌∙◌, sym}
use Rattle.gixp_test_lower.proofs.ListedLemmas.{some_listed}
use Rattle.gixp_test_lower.proofs.SlowLemmas.{on_not, on_false}
use Rattle.gixp_test_lower.proofs.graph.slow.is_unknown.Goals as goal

pub returns-then-contains_key-clause-unknown : goal.returns-then-contains_key-clause-unknown
returns-then-contains_key-clause-unknown c = on_not c.is_among.result _ _ c.is_among.ensures
    (some_listed c.args.commits.now.entries c.args.id.now ∙ sym c.contains_key.ensures ∙ c.if-contains_key.true)

pub returns-else-contains_key-clause-known : goal.returns-else-contains_key-clause-known
returns-else-contains_key-clause-known c = on_false c.contains_key.result _ (λ s. absurd (let e = sym c.if-contains_key.false
    ∙ c.contains_key.ensures ∙ sym (some_listed c.args.commits.now.entries c.args.id.now) ∙ s in cc))
