use Rattle.std.proofs.Common.{refl, ◌≡◌, ◌≤◌, ◌<◌, ◌∙◌, sym, ap, length, arith, take, drop, length-append, ◌∷◌, [], ◌-◌}
use Rattle.std.proofs.lemmas.Int.{to_z-of_z}
use mir.Val.{to_z, of_z}
use mir.Syntax.{w64}
use Rattle.std.specs.Prelude.{ℤ}
use Rattle.std.specs.FinMap as finite
use Rattle.gixp_hash.specs.declared.object_id.ObjectId.{ObjectId}
use Rattle.gixp_graph.specs.declared.commits.Node.{Node}
use Rattle.gixp_graph.specs.GraphData.{HeldCommit}
use Rattle.gixp_graph.specs.Table.{id_at, ids_at}
use Rattle.gixp_graph.specs.Node.{ids_of, IsTable}
use Rattle.gixp_graph.proofs.NodeLemmas.{held_set, table_set, ids_kept, id_of_node, length_ids}
use Rattle.gixp_graph.proofs.TableLemmas.{kept_trans, kept_same}
use Rattle.gixp_graph.proofs.GrowLemmas.{table_number, held_number, kept_number, held_push, table_push, written_more, written_all, any_err}
use Rattle.gixp_graph.proofs.commits.Commits.hold.Goals as goal

pub returns-in_err-parent-clause-err : goal.returns-in_err-parent-clause-err
returns-in_err-parent-clause-err c =
    let v = c.loop-id.invariant in
    any_err c.from_residual.result _
    (held_number c.loop-id.self-inside.nodes.items c.number_of.new.nodes.items _ c.number_of.ensures.grown
    c.loop-id.self-inside.numbers c.loop-id.self-inside.parents.items v.table ∙ v.same)

pub returns-in_err-parent-clause-kept : goal.returns-in_err-parent-clause-kept
returns-in_err-parent-clause-kept c =
    kept_trans c.args.self.now.ids (ids_of c.loop-id.self-inside.nodes.items)
    (ids_of c.number_of.new.nodes.items) c.loop-id.invariant.kept
    (kept_number c.loop-id.self-inside.nodes.items c.number_of.new.nodes.items _ c.number_of.ensures.grown)

pub invariant_of-self-in_err-push : goal.invariant_of-self-in_err-push
invariant_of-self-in_err-push c =
    let v = c.loop-id.invariant in
    rw c.in_err-push.ensures.items
    (table_number c.loop-id.self-inside.nodes.items c.number_of.new.nodes.items _ c.number_of.ensures.grown
    c.loop-id.self-inside.numbers c.number_of.new.numbers c.loop-id.self-inside.parents.items v.table
    c.number_of.ensures.once c.number_of.ensures.numbered)

pub returns-in_err-push-clause-err : goal.returns-in_err-push-clause-err
returns-in_err-push-clause-err c =
    let v = c.loop-id.invariant in
    any_err c.from_residual-in_err-push.result _
    (rw c.in_err-push.ensures.items
    (held_number c.loop-id.self-inside.nodes.items c.number_of.new.nodes.items _ c.number_of.ensures.grown
    c.loop-id.self-inside.numbers c.loop-id.self-inside.parents.items v.table ∙ v.same))

pub returns-in_err-push-clause-kept : goal.returns-in_err-push-clause-kept
returns-in_err-push-clause-kept c =
    kept_trans c.args.self.now.ids (ids_of c.loop-id.self-inside.nodes.items)
    (ids_of c.number_of.new.nodes.items) c.loop-id.invariant.kept
    (kept_number c.loop-id.self-inside.nodes.items c.number_of.new.nodes.items _ c.number_of.ensures.grown)

pub loop-id-preserved : goal.loop-id-preserved
loop-id-preserved c =
    let v = c.loop-id.invariant in
    let t : IsTable c.number_of.new.nodes.items c.number_of.new.numbers c.loop-id.self-inside.parents.items =
    table_number c.loop-id.self-inside.nodes.items c.number_of.new.nodes.items _ c.number_of.ensures.grown
    c.loop-id.self-inside.numbers c.number_of.new.numbers c.loop-id.self-inside.parents.items v.table
    c.number_of.ensures.once c.number_of.ensures.numbered in
    rw c.in_ok-push.ensures.items (record {
      table =
          table_push c.number_of.new.nodes.items c.number_of.new.numbers c.loop-id.self-inside.parents.items t
          c.in_ok-parent.parent c.in_ok-parent.ensures.named.0;
      same =
          held_push c.number_of.new.nodes.items c.number_of.new.numbers c.loop-id.self-inside.parents.items t
          c.in_ok-parent.parent
          ∙ held_number c.loop-id.self-inside.nodes.items c.number_of.new.nodes.items _ c.number_of.ensures.grown
          c.loop-id.self-inside.numbers c.loop-id.self-inside.parents.items v.table ∙ v.same;
      kept = kept_trans c.args.self.now.ids (ids_of c.loop-id.self-inside.nodes.items) (ids_of c.number_of.new.nodes.items) v.kept
          (kept_number c.loop-id.self-inside.nodes.items c.number_of.new.nodes.items _ c.number_of.ensures.grown);
      within = (let w : c.len-first.result ≤ length c.loop-id.self-inside.parents.items = v.within in
          omega (arith, length-append c.loop-id.self-inside.parents.items (c.in_ok-parent.parent ∷ [])));
      written =
          written_more c.loop-id.self-inside.nodes.items c.number_of.new.nodes.items _ c.number_of.ensures.grown
          c.in_ok-parent.parent c.in_ok-parent.ensures.named.1
          c.loop-id.self-inside.parents.items v.table.names c.len-first.result v.within c.args.parents.now c.loop-id.id-index _
          c.loop-id-test.true refl v.written;
    })

pub index-requires : goal.index-requires
index-requires c =
    let k = c.loop-id.invariant.kept c.args.number c.requires in
    let l : c.args.number < length (ids_of c.loop-id.self-inside.nodes.items) = k.0 in
    omega (arith, length_ids c.loop-id.self-inside.nodes.items, c.loop-id.self-inside.nodes.ok.0)

pub index_mut-requires : goal.index_mut-requires
index_mut-requires c =
    let k = c.loop-id.invariant.kept c.args.number c.requires in
    let l : c.args.number < length (ids_of c.loop-id.self-inside.nodes.items) = k.0 in
    omega (arith, length_ids c.loop-id.self-inside.nodes.items, c.loop-id.self-inside.nodes.ok.0)

pub invariant_of-self-2 : goal.invariant_of-self-2
invariant_of-self-2 c =
    let v = c.loop-id.invariant in
    let nodes = c.loop-id.self-inside.nodes.items in
    let l : c.args.number < length (ids_of nodes) = (v.kept c.args.number c.requires).0 in
    let m : c.args.number < length nodes = omega (arith, length_ids nodes) in
    let own : c.index.result.now.id ≡ id_at (ids_of nodes) c.args.number = ap (λ (x : Node). x.id) c.index.ensures
    ∙ sym (id_of_node nodes c.args.number _ m) in
    table_set nodes c.loop-id.self-inside.parents.items v.table.once (id_at (ids_of nodes) c.args.number) c.args.number (l, refl) _ own
    c.loop-id.self-inside.numbers v.table
    (let w : c.len-first.result ≤ length c.loop-id.self-inside.parents.items = v.within in let e : c.len-end.result
    ≡ length c.loop-id.self-inside.parents.items = omega (arith, c.loop-id.self-inside.parents.ok.0) in (omega arith, omega arith))

pub returns-clause-ok : goal.returns-clause-ok
returns-clause-ok c =
    let v = c.loop-id.invariant in
    let nodes = c.loop-id.self-inside.nodes.items in
    let parents = c.loop-id.self-inside.parents.items in
    let l : c.args.number < length (ids_of nodes) = (v.kept c.args.number c.requires).0 in
    let m : c.args.number < length nodes = omega (arith, length_ids nodes) in
    let own : c.index.result.now.id ≡ id_at (ids_of nodes) c.args.number = ap (λ (x : Node). x.id) c.index.ensures
    ∙ sym (id_of_node nodes c.args.number _ m) in
    let h : HeldCommit = record {
      time = to_z w64 (of_z w64 c.args.time);
      parents = ids_at (ids_of nodes)
          (take (c.len-end.result - c.len-first.result) (drop c.len-first.result parents));
      flags = record { 0 = 0 };
    } in
    held_set nodes parents v.table.once (id_at (ids_of nodes) c.args.number) c.args.number
    (l, refl) _ own refl
    ∙ ap (λ m. finite.insert m (id_at (ids_of nodes) c.args.number) h) v.same
    ∙ ap (λ (i : ObjectId). finite.insert c.args.self.now.held i h) (v.kept c.args.number c.requires).1
    ∙ ap (λ (z : ℤ). finite.insert c.args.self.now.held (id_at c.args.self.now.ids c.args.number)
    (record { time = z; parents = h.parents; flags = record { 0 = 0 } })) (to_z-of_z w64 c.args.time c.ranges.time)
    ∙ ap (λ ps. finite.insert c.args.self.now.held (id_at c.args.self.now.ids c.args.number)
    (record { time = c.args.time; parents = ps; flags = record { 0 = 0 } }))
    (written_all (ids_of nodes) parents c.len-first.result c.len-end.result
    (omega (arith, c.loop-id.self-inside.parents.ok.0)) c.args.parents.now c.loop-id.id-index c.loop-id-test.false v.written)

pub returns-clause-kept : goal.returns-clause-kept
returns-clause-kept c =
    let v = c.loop-id.invariant in
    let nodes = c.loop-id.self-inside.nodes.items in
    let l : c.args.number < length (ids_of nodes) = (v.kept c.args.number c.requires).0 in
    let m : c.args.number < length nodes = omega (arith, length_ids nodes) in
    let own : c.index.result.now.id ≡ id_at (ids_of nodes) c.args.number = ap (λ (x : Node). x.id) c.index.ensures
    ∙ sym (id_of_node nodes c.args.number _ m) in
    kept_same _ _ _ (ids_kept nodes c.loop-id.self-inside.parents.items v.table.once
    (id_at (ids_of nodes) c.args.number) c.args.number (l, refl) _ own) v.kept
