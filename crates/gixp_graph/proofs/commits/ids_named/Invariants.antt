use Rattle.std.proofs.Common.{◌≡◌, take}
use Rattle.gixp_graph.specs.Node.{ids_of}
use Rattle.gixp_graph.specs.Table.{ids_at}
use Rattle.gixp_graph.proofs.commits.ids_named.Given as goal

-- the ids of the numbers so far were written
abbrev pub invariant-loop-number : goal.invariant-loop-number
invariant-loop-number l = l.ids.items ≡ ids_at (ids_of l.nodes) (take l.number-index l.numbers)
