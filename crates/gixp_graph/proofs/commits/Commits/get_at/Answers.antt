use Rattle.std.proofs.Common.{refl, ◌<◌, length, arith, rules}
use Rattle.std.proofs.lemmas.Int.{to_z-of_z}
use mir.Val.{SFits}
use mir.Syntax.{w64}
use Rattle.gixp_graph.specs.Node.{ids_of}
use Rattle.gixp_graph.proofs.NodeLemmas.{held_at}
use Rattle.gixp_graph.proofs.commits.Commits.get_at.Goals as goal

pub returns-then-node-clause-value : goal.returns-then-node-clause-value
returns-then-node-clause-value c =
    let fits : SFits w64 c.index-node.result.now.time = search rules in
    let l : c.args.number < length (ids_of c.self.inside.nodes.items) = rw (← c.self.view_is) at c.requires in
    rw (← c.self.view_is)
    (rw (
      held_at c.self.inside.nodes.items c.self.inside.parents.items c.self.invariant.once c.args.number l
          c.index-node.result.now c.index-node.ensures,
      c.if-node.true,
    ) (grind (arith, to_z-of_z)))

pub returns-else-node-clause-value : goal.returns-else-node-clause-value
returns-else-node-clause-value c =
    let l : c.args.number < length (ids_of c.self.inside.nodes.items) = rw (← c.self.view_is) at c.requires in
    rw (← c.self.view_is)
    (rw (
      held_at c.self.inside.nodes.items c.self.inside.parents.items c.self.invariant.once c.args.number l
          c.index-node.result.now c.index-node.ensures,
      c.if-node.false,
    ) refl)

pub returns-then-node-clause-once : goal.returns-then-node-clause-once
returns-then-node-clause-once c = rw (← c.self.view_is) c.self.invariant.once

pub returns-else-node-clause-once : goal.returns-else-node-clause-once
returns-else-node-clause-once c = rw (← c.self.view_is) c.self.invariant.once
