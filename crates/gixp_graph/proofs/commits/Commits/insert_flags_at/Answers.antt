use Rattle.std.proofs.Common.{refl, ◌<◌, ◌∙◌, sym, length}
use Rattle.gixp_graph.specs.Node.{ids_of}
use Rattle.gixp_graph.proofs.HeldLemmas.{flagged_none}
use Rattle.gixp_graph.proofs.NodeLemmas.{held_at, held_marks, table_marks, ids_marks}
use Rattle.gixp_graph.proofs.commits.Commits.insert_flags_at.Goals as goal

pub invariant_of-self : goal.invariant_of-self
invariant_of-self c =
    let l : c.args.number < length (ids_of c.self.inside.nodes.items) = rw (← c.self.view_is) at c.requires in
    table_marks c.self.inside.nodes.items c.self.inside.parents.items c.self.invariant.once _ c.args.number
    (l, refl) c.index.result.now c.index.ensures _ c.self.invariant c.insert.new.self

pub returns-then-node-clause-held : goal.returns-then-node-clause-held
returns-then-node-clause-held c =
    let l : c.args.number < length (ids_of c.self.inside.nodes.items) = rw (← c.self.view_is) at c.requires in
    rw (← c.self.view_is)
    (rw (
      held_at c.self.inside.nodes.items c.self.inside.parents.items c.self.invariant.once c.args.number l
          c.index.result.now c.index.ensures,
      c.if-node.true,
    ) (λ _. refl, λ _. refl))

pub returns-then-node-clause-flagged : goal.returns-then-node-clause-flagged
returns-then-node-clause-flagged c =
    let l : c.args.number < length (ids_of c.self.inside.nodes.items) = rw (← c.self.view_is) at c.requires in
    rw (← c.self.view_is) (held_marks c.self.inside.nodes.items c.self.inside.parents.items c.self.invariant.once _ c.args.number
    (l, refl) c.index.result.now c.index.ensures c.if-node.true _ _
    (c.insert.ensures tt))

pub returns-then-node-clause-ids : goal.returns-then-node-clause-ids
returns-then-node-clause-ids c =
    let l : c.args.number < length (ids_of c.self.inside.nodes.items) = rw (← c.self.view_is) at c.requires in
    rw (← c.self.view_is) (ids_marks c.self.inside.nodes.items c.self.inside.parents.items c.self.invariant.once _ c.args.number
    (l, refl) c.index.result.now c.index.ensures c.insert.new.self)

pub returns-else-node-clause-held : goal.returns-else-node-clause-held
returns-else-node-clause-held c =
    let l : c.args.number < length (ids_of c.self.inside.nodes.items) = rw (← c.self.view_is) at c.requires in
    rw (← c.self.view_is)
    (rw (
      held_at c.self.inside.nodes.items c.self.inside.parents.items c.self.invariant.once c.args.number l
          c.index.result.now c.index.ensures,
      c.if-node.false,
    ) (λ h. h, λ h. h))

pub returns-else-node-clause-flagged : goal.returns-else-node-clause-flagged
returns-else-node-clause-flagged c =
    let l : c.args.number < length (ids_of c.self.inside.nodes.items) = rw (← c.self.view_is) at c.requires in
    sym (flagged_none c.args.self.now.held _ _
    (rw (← c.self.view_is)
    (held_at c.self.inside.nodes.items c.self.inside.parents.items c.self.invariant.once c.args.number l c.index.result.now
    c.index.ensures ∙ rw c.if-node.false refl)))
