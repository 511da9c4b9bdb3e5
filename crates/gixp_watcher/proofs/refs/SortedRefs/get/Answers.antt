use Rattle.std.proofs.Common.{◌≡◌, ◌<◌, length, get_or, Some, Err, sym, ap, subst, rules, ◌∙◌, List}
use Rattle.std.specs.declared.cmp.Ordering.TheVariants.{Equal}
use Rattle.std.specs.List.Sorted.{IsBinarySearchResult}
use Rattle.std.proofs.lemmas.Fn.{always_returns_same}
use Rattle.std.specs.Cmp.Lexicographic.{slice_cmp, nat_list_cmp_total}
use Rattle.std.specs.Ordering.{nat_cmp}
use Rattle.gixp_watcher.specs.declared.rows.RefRow.{RefRow}
use Rattle.gixp_watcher.specs.Sorted.{name_of}
use Rattle.gixp_watcher.proofs.Searches.{found, absent}
use Rattle.gixp_watcher.proofs.refs.SortedRefs.get.Goals as goal

pub returns-in-Ok : goal.returns-in-Ok
returns-in-Ok c =
    let facts = c.in-Ok.ensures in
    let ties = facts.position (λ (r : RefRow). slice_cmp nat_cmp (name_of r) c.args.name.now) (always_returns_same _ _ _ (λ a r g called. search rules)) c.index.result.now in
    let rows = c.deref.ensures.value in
    ap (λ (r : RefRow). Some ((λ (r : RefRow). r.id) r)) c.index.ensures
    ∙ sym (found nat_list_cmp_total name_of (λ (r : RefRow). r.id) _ c.args.name.now c.args.self.now.rising c.in-Ok.index c.index.result.now
    (subst (λ (rs : List RefRow). c.in-Ok.index < length rs) rows facts.bound)
    (subst (λ (rs : List RefRow). (slice_cmp nat_cmp) (name_of (get_or rs c.in-Ok.index c.index.result.now)) c.args.name.now ≡ Equal) rows ties))

pub returns-in-Err : goal.returns-in-Err
returns-in-Err c =
    let parted = c.in-Err.ensures.position (λ (r : RefRow). slice_cmp nat_cmp (name_of r) c.args.name.now) (always_returns_same _ _ _ (λ a r g called. search rules)) in
    sym (absent nat_list_cmp_total name_of (λ (r : RefRow). r.id) _ c.args.name.now c.args.self.now.rising c.in-Err.field-0
    (subst (λ (rs : List RefRow). IsBinarySearchResult (λ (r : RefRow). slice_cmp nat_cmp (name_of r) c.args.name.now) rs (Err c.in-Err.field-0)) c.deref.ensures.value parted))
