use Rattle.gixp_graph.specs.Slots.{tag_of}
use Rattle.gixp_graph.proofs.numbers.tag_of.Goals as goal

pub returns : goal.returns
unfolding tag_of
returns c = search
