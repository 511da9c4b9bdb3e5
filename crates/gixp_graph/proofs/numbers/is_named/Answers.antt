use Rattle.std.proofs.Common.{◌≡◌, ◌<◌, ◌∙◌, ◌≤◌, length, arith, ap, sym}
use Rattle.std.proofs.lemmas.Bool.Decides.{Decides-eqb}
use Rattle.std.proofs.lemmas.Slice.Eq.{slice_eq-Decides}
use Rattle.gixp_hash.specs.declared.object_id.ObjectId.{ObjectId}
use Rattle.gixp_graph.specs.declared.commits.Node.{Node}
use Rattle.gixp_graph.specs.Node.{ids_of}
use Rattle.gixp_graph.specs.Table.{id_at}
use Rattle.gixp_graph.proofs.NodeLemmas.{length_ids, id_of_node}
use Rattle.gixp_graph.proofs.numbers.is_named.Goals as goal

pub returns-in-Some : goal.returns-in-Some
returns-in-Some c =
    let m : c.args.number < length c.args.nodes.now = c.in-Some.ensures.lookup.3.0 in
    let l : c.args.number < length (ids_of c.args.nodes.now) = omega (arith, length_ids c.args.nodes.now, m) in
    let own : id_at (ids_of c.args.nodes.now) c.args.number ≡ c.in-Some.node.now.id =
    id_of_node c.args.nodes.now c.args.number _ m ∙ ap (λ (x : Node). x.id) (sym c.in-Some.ensures.lookup.1) in
    let reports = slice_eq-Decides Decides-eqb _ _ _ c.eq.ensures in (
      (λ t. (l, own ∙ ap (λ bytes. record { bytes = bytes }) (reports.0 t))),
      (λ h. reports.1 (ap (λ (i : ObjectId). i.bytes) (sym own ∙ h.1))),
    )

pub returns-in-None : goal.returns-in-None
returns-in-None c =
    let m : length c.args.nodes.now ≤ c.args.number = c.in-None.ensures.lookup.3 in (
      (λ e. absurd (cc)),
      (λ h. let l : c.args.number < length (ids_of c.args.nodes.now) = h.0 in absurd (omega (arith, length_ids c.args.nodes.now))),
    )
