use Rattle.std.proofs.Common.{◌++◌, ◌∙◌, [], ap, map, arith, rules}
use Rattle.std.specs.Prelude.{filter}
use Rattle.bstr.specs.Owned.{bstring_bytes}
use Rattle.gixp_matching.specs.Found.{found_among, is_over}
use Rattle.gixp_matching.specs.Groups.{following, lent}
use Rattle.gixp_matching.specs.Validate.{conflicts_in}
use Rattle.gixp_matching.proofs.FoundLemmas.{ends_within, ends_at, stands_at, lent_own}
use Rattle.gixp_matching.proofs.ListLemmas.{gathered_here}
use Rattle.gixp_matching.proofs.match_group.validate.conflicts.conflicts_of_groups.Goals as goal

pub overflow_add-end : goal.overflow_add-end
overflow_add-end g c =
    let h = ends_within c.args.groups.now c.args.mappings.now c.groups.group-index c.groups.start c.group-item.result c.group-item.is
    c.groups-test.true c.requires c.groups.invariant.1 in
    omega arith

pub offset_bounds-mappings-start : goal.offset_bounds-mappings-start
offset_bounds-mappings-start g c =
    let h = ends_within c.args.groups.now c.args.mappings.now c.groups.group-index c.groups.start c.group-item.result c.group-item.is
    c.groups-test.true c.requires c.groups.invariant.1 in
    omega arith

pub slice_bounds-push_conflicts-end : goal.slice_bounds-push_conflicts-end
slice_bounds-push_conflicts-end g c =
    let h = ends_within c.args.groups.now c.args.mappings.now c.groups.group-index c.groups.start c.group-item.result c.group-item.is
    c.groups-test.true c.requires c.groups.invariant.1 in
    search rules

pub groups-preserved : goal.groups-preserved
groups-preserved g c =
    let f = g.M.AsMapping.mapped in
    let texts = map bstring_bytes c.args.texts.now in
    let groups = c.args.groups.now in
    let group = c.group-item.result in (
      (λ name.
          let now = filter (is_over name) (conflicts_in c.groups.issues) in
          gathered_here (λ one. found_among texts (following f one.rows.now) name) [] now
          (filter (is_over name) (conflicts_in c.push_conflicts.new.issues)) groups c.groups.group-index group c.groups-test.true
          (c.groups.invariant.0 name)
          (c.in_ok-push_conflicts.ensures name
          ∙ ap (λ part. now ++ found_among texts (lent f part) name)
          (stands_at groups c.args.mappings.now c.groups.group-index c.groups.start group c.group-item.is c.groups-test.true c.requires
          c.groups.invariant.1)
          ∙ ap (λ ms. now ++ found_among texts ms name) (lent_own f group)
          ∙ ap (λ one. now ++ found_among texts (following f one.rows.now) name) c.group-item.is)),
      ends_at groups c.groups.group-index c.groups.start group c.group-item.is c.groups-test.true c.groups.invariant.1,
    )
