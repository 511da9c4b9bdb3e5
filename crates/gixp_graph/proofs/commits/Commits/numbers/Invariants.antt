use Rattle.std.proofs.Common.{◌≡◌, take}
use Rattle.gixp_graph.specs.Table.{ids_at, AllNamed, KeepsNumbers}
use Rattle.gixp_graph.proofs.commits.Commits.numbers.Given as goal

-- the ids so far have numbers
abbrev pub invariant-loop-id : goal.invariant-loop-id
invariant-loop-id l = record {
  held : l.self.held ≡ l.fn.self.held;
  kept : KeepsNumbers l.fn.self.ids l.self.ids;
  named : AllNamed l.self.ids l.numbers.items;
  written : ids_at l.self.ids l.numbers.items ≡ take l.id-index l.ids;
}
