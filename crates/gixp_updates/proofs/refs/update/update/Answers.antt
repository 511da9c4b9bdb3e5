use Rattle.std.proofs.Common.{◌≡◌, ◌+◌, ◌∙◌, [], ◌∷◌, ◌++◌, ◌<◌, ◌≤◌, length, get_or, take, sym, ap, subst, Some, Ok, arith}
use Rattle.std.specs.List.{AllZip}
use Rattle.std.specs.Option.{option_map}
use Rattle.std.proofs.lemmas.List.{take_more}
use Rattle.bstr.specs.Owned.{bstring_bytes}
use Rattle.gixp_refmap.specs.declared.refmap.mapping.Mapping.{Mapping}
use Rattle.gixp_updates.specs.declared.refs.edit.Update.{Update}
use Rattle.gixp_updates.specs.Modes.{LocalSide, wanted_of, IsUpdate}
use Rattle.gixp_updates.specs.LocalSide.{local_with}
use Rattle.gixp_graph.specs.Object.{commit_at}
use Rattle.gixp_updates.specs.Limits.{IsOfMapping}
use Rattle.gixp_updates.specs.declared.refs.mode.Wanted.{Wanted}
use Rattle.gixp_updates.proofs.LimitLemmas.{limit_weaker, limit_read, each_more, is_within}
use Rattle.gixp_updates.proofs.ModeLemmas.{consults_on, consults_as, update_moved, pushed}
use Rattle.gixp_updates.proofs.refs.update.update.Goals as goal

pub loop-mapping-preserved : goal.loop-mapping-preserved
loop-mapping-preserved g c =
    let v = c.loop-mapping.invariant in
    let l : LocalSide =
    local_with g.R.RefStore.refs g.O.Objects.contents c.args.refs.now c.args.objects.now c.args.options.now
    c.args.graph.now.graph in
    let explicit = c.args.map.now.refspecs.items in
    let extra = c.args.map.now.extra_refspecs.items in
    let items = c.args.map.now.mappings.items in
    let k = c.loop-mapping.mapping-index in
    let m : Mapping = c.mapping-item.result in
    let fits : Mapping → Update → Type 0 =
    λ m u. IsUpdate l (wanted_of c.args.options.now.tags explicit extra m) (option_map bstring_bytes m.local) u in
    let is : m ≡ get_or items k m = subst (λ xs. m ≡ get_or xs k m) c.deref-mapping-items.ensures.value c.mapping-item.is in
    let within : k < length items = subst (λ xs. k < length xs) c.deref-mapping-items.ensures.value c.loop-mapping-test.true in
    let next : take (k + 1) items ≡ take k items ++ m ∷ [] = take_more items k m within ∙ ap (λ x. take k items ++ x ∷ []) (sym is) in
    let wanted : c.wanted_of-wanted.result ≡ wanted_of c.args.options.now.tags explicit extra m =
    c.wanted_of-wanted.ensures
    ∙ ap (λ xs. wanted_of c.args.options.now.tags xs c.deref-in-loop-mapping.result.now m) c.deref.ensures.value
    ∙ ap (λ xs. wanted_of c.args.options.now.tags explicit xs m) c.deref-in-loop-mapping.ensures.value in
    record {
      updates = subst (λ ms. AllZip fits ms c.push.new.self.items) (sym next)
          (subst (AllZip fits (take k items ++ m ∷ [])) (sym c.in_ok-push.ensures.items)
          (pushed fits (take k items) c.loop-mapping.updates.items m c.in_ok-update_of.field-0 v.updates
          (update_moved l c.loop-mapping.graph.graph.objects v.consults.looks.objects _ _ wanted _ _ c.local_name-name.ensures
          c.in_ok-update_of.field-0 c.in_ok-update_of.ensures.update)));
      asks = each_more (commit_at c.args.graph.now.graph.objects) items c.args.options.now.most_commits k
          c.in_ok-update_of.field-0 _ _ _ v.asks
          (limit_weaker (commit_at c.args.graph.now.graph.objects)
          (λ q. c.wanted_of-wanted.result.id ≡ Some q) c.args.options.now.most_commits
          (IsOfMapping items) (λ q s. (m, is_within items k m is within, sym (ap (λ (w : Wanted). w.id) wanted) ∙ s)) 2
          (Ok c.in_ok-update_of.field-0) _ _
          (limit_read (commit_at c.args.graph.now.graph.objects) (commit_at c.loop-mapping.graph.graph.objects)
          (ap commit_at v.consults.looks.objects) (λ q. c.wanted_of-wanted.result.id ≡ Some q) c.args.options.now.most_commits 2
          (Ok c.in_ok-update_of.field-0) _ _ c.in_ok-update_of.ensures.limited));
      consults = consults_on c.args.options.now.most_commits c.loop-mapping.updates
          (Ok c.push.new.self) c.args.graph.now c.loop-mapping.graph c.update_of.new.graph v.consults
          (consults_as c.args.options.now.most_commits c.in_ok-update_of.field-0 c.push.new.self _ _ c.in_ok-update_of.ensures.consults);
    }

pub returns-clause-limited : goal.returns-clause-limited
returns-clause-limited g c =
    let within : c.loop-mapping.mapping-index ≤ length c.args.map.now.mappings.items =
    subst (λ xs. c.loop-mapping.mapping-index ≤ length xs) c.deref-mapping-items.ensures.value (omega arith) in
    (c.loop-mapping.mapping-index, within, c.loop-mapping.invariant.asks)
