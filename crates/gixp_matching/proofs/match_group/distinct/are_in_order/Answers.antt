use Rattle.std.proofs.Common.{[], ◌∷◌, ◌++◌, ◌∙◌, ◌≤◌, ap, map, length, refl, arith}
use Rattle.std.proofs.lemmas.List.{map-append, take_all, length-map}
use Rattle.std.proofs.lemmas.Map.Keys.{IsDistinct-from_sorted}
use Rattle.gixp_matching.specs.Apart.{parts, key_parts}
use Rattle.gixp_matching.proofs.DistinctLemmas.{firsts_are_all}
use Rattle.gixp_matching.proofs.KeyLemmas.{by_key}
use Rattle.gixp_matching.proofs.ListLemmas.{mapped_more}
use Rattle.gixp_matching.proofs.RisingLemmas.{sorted_from_rising}
use Rattle.gixp_matching.proofs.match_group.distinct.are_in_order.Goals as goal

pub mappings-init : goal.mappings-init
mappings-init g c = ([], refl, refl)

pub mappings-preserved : goal.mappings-preserved
mappings-preserved g c =
    let kept = c.mappings.invariant in
    let key = c.key.result in (
      kept.0 ++ key ∷ [],
      mapped_more g.M.AsMapping.mapped parts (map key_parts kept.0) (map key_parts (kept.0 ++ key ∷ []))
          c.args.mappings.now c.mappings.mapping-index c.mapping-item.result c.mapping-item.is c.mappings-test.true kept.1
          (map-append key_parts kept.0 (key ∷ []) ∙ ap (λ p. map key_parts kept.0 ++ p ∷ []) c.key.ensures),
      c.rises.ensures c.if-not-rises.false kept.0 kept.2,
    )

pub returns : goal.returns
returns g c = λ t.
    let ms = map g.M.AsMapping.mapped c.args.mappings.now in
    let kept = c.mappings.invariant in
    let all : length ms ≤ c.mappings.mapping-index = omega (arith, length-map c.args.mappings.now g.M.AsMapping.mapped) in
    firsts_are_all kept.0 ms (kept.1 ∙ ap (map parts) (take_all c.mappings.mapping-index ms all))
    (IsDistinct-from_sorted by_key kept.0 (sorted_from_rising by_key kept.0 c.mappings.last kept.2))
