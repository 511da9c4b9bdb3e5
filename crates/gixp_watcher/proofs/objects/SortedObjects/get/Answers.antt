use Rattle.std.proofs.Common.{◌≡◌, ◌<◌, length, get_or, Some, Err, sym, ap, subst, rules, ◌∙◌, List}
use Rattle.std.specs.declared.cmp.Ordering.TheVariants.{Equal}
use Rattle.std.specs.List.Sorted.{IsBinarySearchResult}
use Rattle.std.proofs.lemmas.Fn.{always_returns_same}
use Rattle.gix_protocol.specs.IdLaws.{ids_total}
use Rattle.gix_protocol.specs.ObjectId.{id_cmp}
use Rattle.gixp_watcher.specs.declared.rows.ObjectRow.{ObjectRow}
use Rattle.gixp_watcher.specs.Sorted.{object_of}
use Rattle.gixp_watcher.proofs.Searches.{found, absent}
use Rattle.gixp_watcher.proofs.objects.SortedObjects.get.Goals as goal

pub returns-in-Ok : goal.returns-in-Ok
returns-in-Ok c =
    let facts = c.in-Ok.ensures in
    let ties = facts.position (λ (r : ObjectRow). id_cmp r.id c.args.id.now) (always_returns_same _ _ _ (λ a r g called. search rules)) c.index.result.now in
    let rows = c.deref.ensures.value in
    ap (λ (r : ObjectRow). Some (object_of r)) c.index.ensures
    ∙ sym (found ids_total (λ (r : ObjectRow). r.id) object_of _ c.args.id.now c.args.self.now.rising c.in-Ok.index c.index.result.now
    (subst (λ (rs : List ObjectRow). c.in-Ok.index < length rs) rows facts.bound)
    (subst (λ (rs : List ObjectRow). id_cmp ((λ (r : ObjectRow). r.id) (get_or rs c.in-Ok.index c.index.result.now)) c.args.id.now ≡ Equal) rows ties))

pub returns-in-Err : goal.returns-in-Err
returns-in-Err c =
    let parted = c.in-Err.ensures.position (λ (r : ObjectRow). id_cmp r.id c.args.id.now) (always_returns_same _ _ _ (λ a r g called. search rules)) in
    sym (absent ids_total (λ (r : ObjectRow). r.id) object_of _ c.args.id.now c.args.self.now.rising c.in-Err.field-0
    (subst (λ (rs : List ObjectRow). IsBinarySearchResult (λ (r : ObjectRow). id_cmp r.id c.args.id.now) rs (Err c.in-Err.field-0)) c.deref.ensures.value parted))
