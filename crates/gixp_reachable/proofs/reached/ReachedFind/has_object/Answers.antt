use Rattle.std.proofs.Common.{◌∙◌, sym}
use Rattle.std.specs.Prelude.{is_some, Option}
use Rattle.gixp_graph.specs.Object.{Object}
use Rattle.gixp_reachable.proofs.ReachedLemmas.{hidden_gives, shown_gives}
use Rattle.gixp_reachable.proofs.reached.ReachedFind.has_object.Goals as goal

pub returns-then-is_hidden : goal.returns-then-is_hidden
returns-then-is_hidden g c = hidden_gives _ _ _ (λ (o : Option Object). is_some o) (sym c.is_hidden.ensures ∙ c.if-is_hidden.true)

pub returns : goal.returns
returns g c = c.has_object.ensures ∙ shown_gives _ _ _ (λ (o : Option Object). is_some o) (sym c.is_hidden.ensures ∙ c.if-is_hidden.false)
