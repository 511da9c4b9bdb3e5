use Rattle.std.proofs.Common.{◌∙◌, sym, subst, ◌≡◌}
use Rattle.std.specs.Prelude.{option_and_then, option_map, IfOk}
use Rattle.gixp_graph.specs.Object.{commit_of}
use Rattle.gixp_graph.specs.Object.{Object}
use Rattle.gixp_reachable.proofs.ReachedLemmas.{hidden_gives, shown_gives}
use Rattle.gixp_reachable.proofs.reached.ReachedFind.find_commit.Goals as goal

pub returns-then-is_hidden-clause-found : goal.returns-then-is_hidden-clause-found
returns-then-is_hidden-clause-found g c = hidden_gives _ _ _ (option_and_then (λ (o : Object). o.commit)) (sym c.is_hidden.ensures ∙ c.if-is_hidden.true)

pub returns-clause-found : goal.returns-clause-found
returns-clause-found g c =
    subst (λ x. IfOk c.find_commit.result (λ found. option_map commit_of found ≡ x))
    (shown_gives _ _ _ (option_and_then (λ (o : Object). o.commit)) (sym c.is_hidden.ensures ∙ c.if-is_hidden.false)) c.find_commit.ensures.found
