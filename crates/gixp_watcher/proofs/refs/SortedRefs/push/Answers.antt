use Rattle.std.proofs.Common.{sym, subst}
use Rattle.std.specs.Cmp.Lexicographic.{nat_list_cmp_total}
use Rattle.std.specs.Ordering.{nat_cmp}
use Rattle.std.specs.Cmp.Lexicographic.{slice_cmp}
use Rattle.gixp_watcher.specs.declared.rows.RefRow.{RefRow}
use Rattle.gixp_watcher.specs.Sorted.{name_of, Rises, IsAboveLast}
use Rattle.gixp_watcher.proofs.Searches.{rises_pushed}
use Rattle.gixp_watcher.proofs.refs.SortedRefs.push.Goals as goal

pub invariant_of-self : goal.invariant_of-self
invariant_of-self c =
    let last = subst (λ rows. IsAboveLast (slice_cmp nat_cmp) name_of rows c.args.row) c.deref.ensures.value (c.follows.ensures c.if-not-follows.false) in
    record { rising = subst (Rises (slice_cmp nat_cmp) name_of) (sym c.push.ensures.items) (rises_pushed nat_list_cmp_total name_of _ _ c.args.row c.args.self.now.rising last) }
