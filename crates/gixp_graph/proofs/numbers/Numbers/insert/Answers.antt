use Rattle.gixp_graph.proofs.numbers.Numbers.insert.Goals as goal
use Rattle.gixp_graph.specs.Node.{ids_of}
use Rattle.gixp_graph.specs.Table.{id_at}

pub returns-clause-numbered : goal.returns-clause-numbered
returns-clause-numbered c n l =
    c.insert_number.ensures.kept (id_at (ids_of c.args.nodes.now) n) n (c.requires.new n l) (c.in_ok-grow.ensures n l)
