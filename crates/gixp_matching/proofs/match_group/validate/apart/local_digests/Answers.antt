use Rattle.std.proofs.Common.{◌∙◌, ◌≤◌, ap, map, length, arith}
use Rattle.std.specs.Prelude.{option_to_list}
use Rattle.std.specs.List.{flat_map}
use Rattle.std.proofs.lemmas.List.{take_all, length-map}
use Rattle.gixp_matching.specs.Digest.{digest}
use Rattle.gixp_matching.proofs.ListLemmas.{gathered_more, map_of_flat_map}
use Rattle.gixp_matching.proofs.match_group.validate.apart.local_digests.Goals as goal

pub mappings-preserved : goal.mappings-preserved
mappings-preserved g c =
    gathered_more g.M.AsMapping.mapped (λ m. map digest (option_to_list m.local)) c.mappings.digests.items c.push_digest.new.digests.items
    c.args.mappings.now c.mappings.mapping-index c.mapping-item.result c.mapping-item.is c.mappings-test.true c.mappings.invariant
    c.in_ok-push_digest.ensures

pub returns : goal.returns
returns g c =
    let ms = map g.M.AsMapping.mapped c.args.mappings.now in
    let all : length ms ≤ c.mappings.mapping-index = omega (arith, length-map c.args.mappings.now g.M.AsMapping.mapped) in
    c.mappings.invariant ∙ ap (flat_map (λ m. map digest (option_to_list m.local))) (take_all c.mappings.mapping-index ms all)
    ∙ map_of_flat_map digest (λ m. option_to_list m.local) ms
