use Rattle.std.proofs.Common.{ℕ, ◌<◌}
use Rattle.gixp_graph.specs.Node.{ids_of}
use Rattle.gixp_graph.specs.Slots.{IsReached}
use Rattle.gixp_graph.specs.Table.{id_at}
use Rattle.gixp_graph.proofs.numbers.Numbers.grow.Given as goal

-- the numbers so far are found
abbrev pub invariant-loop-number : goal.invariant-loop-number
invariant-loop-number l = (n : ℕ) → n < l.number → IsReached l.more (id_at (ids_of l.nodes) n) n
