use Rattle.std.proofs.Common.{◌∙◌, sym, ap, length, subst, List}
use Rattle.gixp_graph.specs.declared.commits.Node.{Node}
use Rattle.gixp_graph.specs.Node.{ids_of}
use Rattle.gixp_graph.specs.Slots.{IsNumbered, IsNew, IsReached}
use Rattle.gixp_graph.proofs.NodeLemmas.{length_ids}
use Rattle.gixp_graph.proofs.GrowLemmas.{numbered_push, ids_push}
use Rattle.gixp_graph.proofs.commits.number_of.Goals as goal

pub returns-clause-numbered : goal.returns-clause-numbered
returns-clause-numbered c =
    let nodes : List Node = c.args.nodes.now.items in
    let new : IsNew (ids_of nodes) c.args.id.now =
    subst (λ ns. IsNew (ids_of ns) c.args.id.now) c.as_slice.ensures.value c.in_default.ensures.none in
    let numbered : IsNumbered (ids_of nodes) c.insert.new.self =
    subst (λ ns. IsNumbered (ids_of ns) c.insert.new.self) c.as_slice-2.ensures.value c.insert.ensures.numbered in
    let last : IsReached c.insert.new.self c.args.id.now (length (ids_of nodes)) =
    subst (IsReached c.insert.new.self c.args.id.now) (ap (λ ns. length ns) c.as_slice-2.ensures.value ∙ sym (length_ids nodes))
    c.in_ok-insert.ensures.reached in
    rw c.in_ok-push.ensures.items (rw ids_push (numbered_push (ids_of nodes) c.args.id.now new c.insert.new.self numbered last))
