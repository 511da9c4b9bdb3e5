use Rattle.std.proofs.Common.{◌≡◌, ◌<◌, ◌≤◌, ◌∙◌, ℕ, List, length, arith, sym, subst, ⊎_elim}
use Rattle.std.proofs.lemmas.Bool.{cases_lt}
use Rattle.gixp_graph.specs.declared.commits.Node.{Node}
use Rattle.gixp_graph.specs.Node.{ids_of}
use Rattle.gixp_graph.specs.Table.{id_at}
use Rattle.gixp_graph.specs.Slots.{IsReached}
use Rattle.gixp_graph.proofs.NodeLemmas.{length_ids, id_of_node}
use Rattle.gixp_graph.proofs.numbers.Numbers.grow.Goals as goal

pub loop-number-preserved : goal.loop-number-preserved
loop-number-preserved c n l =
    let nodes : List Node = c.args.nodes.now in
    let k : ℕ = c.loop-number.number in
    let m : k < length nodes = c.loop-number-test.true in
    let named : k < length (ids_of nodes) = omega (arith, length_ids nodes, m) in
    ⊎_elim
    (λ (less : n < k).
    c.insert_number.ensures.kept (id_at (ids_of nodes) n) n (λ e.
    let same : n ≡ k = c.requires.once n k (omega (arith, less, named)) named (e ∙ sym (id_of_node nodes k _ m)) in
    omega (arith, less))
    (c.loop-number.invariant n less))
    (λ (more : k ≤ n).
    let same : k ≡ n = omega (arith, l) in
    subst (λ i. IsReached c.insert_number.new.self (id_at (ids_of nodes) i) i) same
    (subst (λ id. IsReached c.insert_number.new.self id k) (sym (id_of_node nodes k _ m)) c.in_ok-insert_number.ensures.reached))
    (cases_lt n k)

pub returns : goal.returns
returns c n l = c.loop-number.invariant n (omega (arith, length_ids c.args.nodes.now, c.loop-number-test.false, l))
