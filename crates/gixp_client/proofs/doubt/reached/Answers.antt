use Rattle.std.proofs.Common.{ap, sym, ◌∙◌}
use Rattle.std.specs.List.{filter_map}
use Rattle.gixp_client.specs.Doubted.{doubted_id, doubted}
use Rattle.gixp_client.proofs.DoubtLemmas.{no_ids, none_hidden}
use Rattle.gixp_client.proofs.doubt.reached.Goals as goal

pub returns-then-trusts-clause-shown : goal.returns-then-trusts-clause-shown
returns-then-trusts-clause-shown g c =
    none_hidden _ _ _ _
    (ap (λ b. doubted b (g.F.Find.contents c.args.objects.now) (g.R.RefStore.refs c.args.refs.now) c.args.map.now.mappings.items) c.if-trusts.true)
    (c.all.ensures (g.R.RefStore.targets c.args.refs.now))

pub returns-then-is_empty-clause-shown : goal.returns-then-is_empty-clause-shown
returns-then-is_empty-clause-shown g c =
    none_hidden _ _ _ _
    (ap (λ b. doubted b (g.F.Find.contents c.args.objects.now) (g.R.RefStore.refs c.args.refs.now) c.args.map.now.mappings.items) c.if-trusts.false
    ∙ (ap (filter_map (doubted_id (g.F.Find.contents c.args.objects.now) (g.R.RefStore.refs c.args.refs.now))) (sym c.deref.ensures.value)
    ∙ (sym c.in_ok-doubted.ensures ∙ (sym c.as_slice.ensures.value ∙ no_ids _ (sym c.is_empty.ensures ∙ c.if-is_empty.true)))))
    (c.all-then-is_empty.ensures (g.R.RefStore.targets c.args.refs.now))
