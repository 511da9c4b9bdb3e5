use Rattle.std.proofs.Common.{[], ◌∷◌, ◌++◌, ◌∙◌, ◌≤◌, ap, sym, map, length, refl, arith}
use Rattle.std.specs.Prelude.{option_to_list}
use Rattle.std.specs.List.{list_any}
use Rattle.std.proofs.lemmas.List.{map-append, take_all, length-map}
use Rattle.std.proofs.lemmas.Map.Keys.{IsDistinct-from_sorted}
use Rattle.gixp_matching.specs.Apart.{by_bytes, locals, parts, key_parts}
use Rattle.gixp_matching.specs.MatchGroup.{key_bytes}
use Rattle.gixp_matching.specs.Validation.{is_partial}
use Rattle.gixp_matching.proofs.DistinctLemmas.{firsts_are_all, locals_are_apart}
use Rattle.gixp_matching.proofs.KeyLemmas.{by_key}
use Rattle.gixp_matching.proofs.ListLemmas.{mapped_more, gathered_more, none_more}
use Rattle.gixp_matching.proofs.RisingLemmas.{sorted_from_rising}
use Rattle.gixp_matching.proofs.match_group.plain.are_plain.Goals as goal

pub mappings-init : goal.mappings-init
mappings-init g c = (([], refl, refl), ([], refl, refl), refl)

pub mappings-preserved : goal.mappings-preserved
mappings-preserved g c =
    let f = g.M.AsMapping.mapped in
    let xs = c.args.mappings.now in
    let i = c.mappings.mapping-index in
    let kept = c.mappings.invariant in
    let key = c.key.result in
    let names = kept.1 in
    let step = c.local_rises.ensures c.if-not-local_rises.false names.0 names.2 in (
      (
        kept.0.0 ++ key ∷ [],
        mapped_more f parts (map key_parts kept.0.0) (map key_parts (kept.0.0 ++ key ∷ []))
            xs i c.mapping-item.result c.mapping-item.is c.mappings-test.true kept.0.1
            (map-append key_parts kept.0.0 (key ∷ []) ∙ ap (λ p. map key_parts kept.0.0 ++ p ∷ []) c.key.ensures),
        c.rises.ensures c.if-not-rises.false kept.0.0 kept.0.2,
      ),
      (
        names.0 ++ step.0,
        gathered_more f (λ m. option_to_list m.local) (map key_bytes names.0) (map key_bytes (names.0 ++ step.0))
            xs i c.mapping-item.result c.mapping-item.is c.mappings-test.true names.1
            (map-append key_bytes names.0 step.0 ∙ ap (λ l. map key_bytes names.0 ++ l) step.1),
        step.2,
      ),
      none_more f is_partial xs i c.mapping-item.result c.mapping-item.is c.mappings-test.true kept.2
          (sym c.is_partial.ensures ∙ c.if-is_partial.false),
    )

pub returns-clause-firsts : goal.returns-clause-firsts
returns-clause-firsts g c = λ t.
    let ms = map g.M.AsMapping.mapped c.args.mappings.now in
    let kept = c.mappings.invariant.0 in
    let all : length ms ≤ c.mappings.mapping-index = omega (arith, length-map c.args.mappings.now g.M.AsMapping.mapped) in
    firsts_are_all kept.0 ms (kept.1 ∙ ap (map parts) (take_all c.mappings.mapping-index ms all))
    (IsDistinct-from_sorted by_key kept.0 (sorted_from_rising by_key kept.0 c.mappings.last kept.2))

pub returns-clause-apart : goal.returns-clause-apart
returns-clause-apart g c = λ t.
    let ms = map g.M.AsMapping.mapped c.args.mappings.now in
    let kept = c.mappings.invariant.1 in
    let all : length ms ≤ c.mappings.mapping-index = omega (arith, length-map c.args.mappings.now g.M.AsMapping.mapped) in
    locals_are_apart kept.0 ms (kept.1 ∙ ap locals (take_all c.mappings.mapping-index ms all))
    (IsDistinct-from_sorted by_bytes kept.0 (sorted_from_rising by_bytes kept.0 c.mappings.last_local kept.2))

pub returns-clause-whole : goal.returns-clause-whole
returns-clause-whole g c = λ t.
    let ms = map g.M.AsMapping.mapped c.args.mappings.now in
    let all : length ms ≤ c.mappings.mapping-index = omega (arith, length-map c.args.mappings.now g.M.AsMapping.mapped) in
    ap (list_any is_partial) (sym (take_all c.mappings.mapping-index ms all)) ∙ c.mappings.invariant.2
