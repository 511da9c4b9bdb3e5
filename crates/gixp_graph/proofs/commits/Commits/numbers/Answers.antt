use Rattle.std.proofs.Common.{◌++◌, [], ◌∷◌, ◌∙◌, ap, sym, take, length, ◌<◌}
use Rattle.std.proofs.lemmas.List.{take_more}
use Rattle.std.proofs.lemmas.List.Elements.{All-push}
use Rattle.gixp_graph.specs.Table.{id_at}
use Rattle.gixp_graph.proofs.TableLemmas.{kept_trans, ids_kept, named_kept, ids_push}
use Rattle.gixp_graph.proofs.commits.Commits.numbers.Goals as goal

pub returns-in_err-push-clause-kept : goal.returns-in_err-push-clause-kept
returns-in_err-push-clause-kept c =
    kept_trans c.args.self.now.ids c.loop-id.self.ids c.number.new.self.ids c.loop-id.invariant.kept c.number.ensures.kept

pub loop-id-preserved : goal.loop-id-preserved
loop-id-preserved c =
    let v = c.loop-id.invariant in
    let e = c.in_ok-number.ensures in
    let ids = c.number.new.self.ids in
    let old = c.loop-id.numbers.items in
    rw c.in_ok-push.ensures.items (record {
      held = e.held ∙ v.held;
      kept = kept_trans c.args.self.now.ids c.loop-id.self.ids ids v.kept e.kept;
      named = All-push (λ n. n < length ids) old c.in_ok-number.number (named_kept c.loop-id.self.ids ids e.kept old v.named) e.named.0;
      written = ids_push ids old c.in_ok-number.number
          ∙ ap (λ is. is ++ id_at ids c.in_ok-number.number ∷ []) (ids_kept c.loop-id.self.ids ids e.kept old v.named ∙ v.written)
          ∙ ap (λ i. take c.loop-id.id-index c.args.ids.now ++ i ∷ []) e.named.1
          ∙ sym (take_more c.args.ids.now c.loop-id.id-index _ c.loop-id-test.true);
    })
