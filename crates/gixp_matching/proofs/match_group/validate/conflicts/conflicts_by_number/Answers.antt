use Rattle.std.proofs.Common.{[], ◌∙◌, ap, sym, subst, map}
use Rattle.bstr.specs.Owned.{bstring_bytes}
use Rattle.gixp_matching.specs.Groups.{AreGroups, grouped}
use Rattle.gixp_matching.specs.Found.{AddsConflicts, found_in_groups}
use Rattle.gixp_matching.specs.MatchGroup.{values}
use Rattle.gixp_matching.specs.Validate.{conflicts_in}
use Rattle.gixp_matching.proofs.FoundLemmas.{all_found}
use Rattle.gixp_matching.proofs.UniqueLemmas.{conflicts_from_issues}
use Rattle.gixp_matching.proofs.match_group.validate.conflicts.conflicts_by_number.Goals as goal

pub conflicts_of_groups-requires : goal.conflicts_of_groups-requires
conflicts_of_groups-requires g c =
    c.deref-5.ensures.value ∙ c.in_ok-grouped.ensures ∙ ap grouped (c.deref-2.ensures.value ∙ sym c.deref-4.ensures.value)

pub returns : goal.returns
returns g c =
    let f = g.M.AsMapping.mapped in
    let texts = map bstring_bytes c.in_ok-texts.texts.items in
    let ms = map f c.args.mappings.now in
    let groups = c.deref-4.result.now in
    conflicts_from_issues (values c.args.specs.now) texts ms c.in_ok-issues.issues.items c.sort_by_name.new.issues.items
    c.in_ok-texts.ensures
    (all_found f texts ms c.in_ok-rows.rows.items groups (conflicts_in c.in_ok-issues.issues) c.in_ok-rows.ensures
    (subst (λ rows. AreGroups rows groups) c.deref.ensures.value
    (subst (AreGroups c.deref.result.now) (sym c.deref-4.ensures.value) c.in_ok-groups.ensures))
    (subst (λ t. AddsConflicts (found_in_groups f (map bstring_bytes t) groups) [] (conflicts_in c.in_ok-issues.issues))
    c.deref-3.ensures.value
    c.in_ok-issues.ensures))
    c.in_ok-sort_by_name.ensures.permutation c.in_ok-sort_by_name.ensures.order
