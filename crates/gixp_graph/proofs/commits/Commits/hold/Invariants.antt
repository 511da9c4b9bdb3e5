use Rattle.std.proofs.Common.{◌≡◌, ◌≤◌, length, take, drop}
use Rattle.gixp_graph.specs.Table.{ids_at, KeepsNumbers}
use Rattle.gixp_graph.specs.Node.{ids_of, held_in, IsTable}
use Rattle.gixp_graph.proofs.commits.Commits.hold.Given as goal

-- the held commits are the same as before, and the parents so far have numbers
abbrev pub invariant-loop-id : goal.invariant-loop-id
invariant-loop-id l = record {
  table : IsTable l.self-inside.nodes.items l.self-inside.numbers l.self-inside.parents.items;
  same : held_in l.self-inside.nodes.items l.self-inside.parents.items ≡ l.fn.self.held;
  kept : KeepsNumbers l.fn.self.ids (ids_of l.self-inside.nodes.items);
  within : l.first ≤ length l.self-inside.parents.items;
  written : ids_at (ids_of l.self-inside.nodes.items) (drop l.first l.self-inside.parents.items) ≡ take l.id-index l.parents;
}
