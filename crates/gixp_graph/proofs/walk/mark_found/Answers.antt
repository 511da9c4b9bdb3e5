use Rattle.std.proofs.Common.{◌≡◌, ◌∙◌, ap, sym, rules}
use Rattle.gixp_hash.specs.declared.object_id.ObjectId.{ObjectId}
use Rattle.gixp_graph.specs.GraphData.{GraphData, graph_of, flagged}
use Rattle.gixp_graph.specs.Table.{id_at}
use Rattle.gixp_graph.proofs.MarkLemmas.{marked_before, marked_now}
use Rattle.gixp_graph.proofs.walk.mark_found.Goals as goal

pub returns-then-contains-clause-ok : goal.returns-then-contains-clause-ok
returns-then-contains-clause-ok g c =
    let graph : GraphData = graph_of (g.O.Objects.contents c.args.objects.now) c.args.commits.now.held in
    c.in_ok-time.ensures.ok ∙ marked_before graph _ _ _ (sym c.in-Some.is ∙ c.in_ok-time.ensures.found)
    (sym (c.contains.ensures tt) ∙ c.if-contains.true)

pub returns-clause-ok : goal.returns-clause-ok
returns-clause-ok g c =
    let graph : GraphData = graph_of (g.O.Objects.contents c.args.objects.now) c.args.commits.now.held in
    let id : ObjectId = id_at c.args.commits.now.ids c.args.number in
    let same : id_at c.lookup_at.new.self.ids c.args.number ≡ id = (c.lookup_at.ensures.kept c.args.number c.requires).1 in
    c.insert_flags_at.ensures.flagged ∙ ap (λ i. flagged c.lookup_at.new.self.held i (record { 0 = 1 })) same
    ∙ ap (λ m. flagged m id (record { 0 = 1 })) c.in_ok-time.ensures.ok
    ∙ marked_now graph id _ _ (sym c.in-Some.is ∙ c.in_ok-time.ensures.found) (sym (c.contains.ensures tt) ∙ c.if-contains.false)

pub returns-then-contains-clause-time : goal.returns-then-contains-clause-time
returns-then-contains-clause-time g c = search rules
