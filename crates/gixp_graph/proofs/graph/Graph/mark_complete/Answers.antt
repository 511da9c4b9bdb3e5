use Rattle.std.proofs.lemmas.Result.{on_ok_weaker}
use Rattle.gixp_graph.specs.GraphData.{GraphData, graph_of}
use Rattle.gixp_graph.proofs.ExactLemmas.{sound_exact, complete_exact, held_exact, reads_exact}
use Rattle.gixp_graph.proofs.AskedLemmas.{asked_exact}
use Rattle.gixp_graph.proofs.graph.Graph.mark_complete.Goals as goal

pub returns-clause-complete : goal.returns-clause-complete
returns-clause-complete g c =
    let start : GraphData = graph_of (g.O.Objects.contents c.self.inside.objects) c.self.inside.commits.held in
    rw (← c.self.view_is) (on_ok_weaker c.mark_complete.result
    (λ all. complete_exact start _ _ _ c.mark_complete.ensures.sound c.self.invariant c.mark_complete.ensures.only_marks all)
    c.mark_complete.ensures.complete)

pub returns-clause-sound : goal.returns-clause-sound
returns-clause-sound g c =
    let start : GraphData = graph_of (g.O.Objects.contents c.self.inside.objects) c.self.inside.commits.held in
    rw (← c.self.view_is) (sound_exact start _ _ _ c.mark_complete.ensures.sound c.self.invariant)

pub returns-clause-held : goal.returns-clause-held
returns-clause-held g c =
    let start : GraphData = graph_of (g.O.Objects.contents c.self.inside.objects) c.self.inside.commits.held in
    rw (← c.self.view_is) (held_exact start _ _ _ c.mark_complete.ensures.only_marks c.mark_complete.ensures.sound c.self.invariant)

pub returns-clause-reads : goal.returns-clause-reads
returns-clause-reads g c =
    let start : GraphData = graph_of (g.O.Objects.contents c.self.inside.objects) c.self.inside.commits.held in
    rw (← c.self.view_is) (on_ok_weaker c.mark_complete.result
    (λ all. reads_exact start _ _ _ c.self.invariant all) c.mark_complete.ensures.complete)

pub returns-clause-asked : goal.returns-clause-asked
returns-clause-asked g c =
    let start : GraphData = graph_of (g.O.Objects.contents c.self.inside.objects) c.self.inside.commits.held in
    rw (← c.self.view_is) (asked_exact start c.self.invariant _ _ _ _ c.mark_complete.ensures.asked)
