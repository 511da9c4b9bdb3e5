use Rattle.std.proofs.Common.{◌∙◌, ap}
use Rattle.gixp_graph.specs.Table.{Table}
use Rattle.gixp_graph.proofs.GrowLemmas.{held_number}
use Rattle.gixp_graph.proofs.commits.Commits.number.Goals as goal

pub returns-clause-held : goal.returns-clause-held
returns-clause-held c =
    held_number c.self.inside.nodes.items c.number_of.new.nodes.items _ c.number_of.ensures.grown c.self.inside.numbers
    c.self.inside.parents.items c.self.invariant ∙ ap (λ (t : Table). t.held) c.self.view_is
