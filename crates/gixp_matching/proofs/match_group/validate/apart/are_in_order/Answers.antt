use Rattle.std.proofs.Common.{[], ◌++◌, ◌∙◌, ◌≤◌, ap, map, length, refl, arith}
use Rattle.std.specs.Prelude.{option_to_list}
use Rattle.std.proofs.lemmas.List.{map-append, take_all, length-map}
use Rattle.std.proofs.lemmas.Map.Keys.{IsDistinct-from_sorted}
use Rattle.gixp_matching.specs.Apart.{by_bytes, locals}
use Rattle.gixp_matching.specs.MatchGroup.{key_bytes}
use Rattle.gixp_matching.proofs.DistinctLemmas.{locals_are_apart}
use Rattle.gixp_matching.proofs.ListLemmas.{gathered_more}
use Rattle.gixp_matching.proofs.RisingLemmas.{sorted_from_rising}
use Rattle.gixp_matching.proofs.match_group.validate.apart.are_in_order.Goals as goal

pub mappings-init : goal.mappings-init
mappings-init g c = ([], refl, refl)

pub mappings-preserved : goal.mappings-preserved
mappings-preserved g c =
    let kept = c.mappings.invariant in
    let step = c.local_rises.ensures c.if-not-local_rises.false kept.0 kept.2 in (
      kept.0 ++ step.0,
      gathered_more g.M.AsMapping.mapped (λ m. option_to_list m.local) (map key_bytes kept.0) (map key_bytes (kept.0 ++ step.0))
          c.args.mappings.now c.mappings.mapping-index c.mapping-item.result c.mapping-item.is c.mappings-test.true kept.1
          (map-append key_bytes kept.0 step.0 ∙ ap (λ l. map key_bytes kept.0 ++ l) step.1),
      step.2,
    )

pub returns : goal.returns
returns g c = λ t.
    let ms = map g.M.AsMapping.mapped c.args.mappings.now in
    let kept = c.mappings.invariant in
    let all : length ms ≤ c.mappings.mapping-index = omega (arith, length-map c.args.mappings.now g.M.AsMapping.mapped) in
    locals_are_apart kept.0 ms (kept.1 ∙ ap locals (take_all c.mappings.mapping-index ms all))
    (IsDistinct-from_sorted by_bytes kept.0 (sorted_from_rising by_bytes kept.0 c.mappings.last kept.2))
