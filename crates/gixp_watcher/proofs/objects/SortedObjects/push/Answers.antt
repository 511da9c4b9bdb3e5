use Rattle.std.proofs.Common.{sym, subst}
use Rattle.gix_protocol.specs.IdLaws.{ids_total}
use Rattle.gix_protocol.specs.ObjectId.{id_cmp}
use Rattle.gixp_watcher.specs.declared.rows.ObjectRow.{ObjectRow}
use Rattle.gixp_watcher.specs.Sorted.{Rises, IsAboveLast}
use Rattle.gixp_watcher.proofs.Searches.{rises_pushed}
use Rattle.gixp_watcher.proofs.objects.SortedObjects.push.Goals as goal

pub invariant_of-self : goal.invariant_of-self
invariant_of-self c =
    let last = subst (λ rows. IsAboveLast id_cmp (λ (r : ObjectRow). r.id) rows c.args.row) c.deref.ensures.value (c.follows.ensures c.if-not-follows.false) in
    record { rising = subst (Rises id_cmp (λ (r : ObjectRow). r.id)) (sym c.push.ensures.items) (rises_pushed ids_total (λ (r : ObjectRow). r.id) _ _ c.args.row c.args.self.now.rising last) }
