use Rattle.std.proofs.Common.{map}
use Rattle.gixp_matching.specs.Apart.{parts, key_parts}
use Rattle.gixp_matching.proofs.ListLemmas.{mapped_more}
use Rattle.gixp_matching.proofs.match_group.distinct.keys_of.Goals as goal

pub mappings-preserved : goal.mappings-preserved
mappings-preserved g c =
    mapped_more g.M.AsMapping.mapped parts (map key_parts c.mappings.keys.items) (map key_parts c.push_key.new.keys.items)
    c.args.mappings.now c.mappings.mapping-index c.mapping-item.result c.mapping-item.is c.mappings-test.true c.mappings.invariant
    c.in_ok-push_key.ensures
