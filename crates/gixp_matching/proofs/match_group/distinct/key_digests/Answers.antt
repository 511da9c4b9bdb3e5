use Rattle.std.proofs.Common.{[], ◌∷◌, ◌++◌, ◌∙◌, ap}
use Rattle.gixp_matching.specs.Apart.{parts}
use Rattle.gixp_matching.specs.Digest.{parts_digest}
use Rattle.gixp_matching.proofs.ListLemmas.{mapped_more}
use Rattle.gixp_matching.proofs.match_group.distinct.key_digests.Goals as goal

pub mappings-preserved : goal.mappings-preserved
mappings-preserved g c =
    mapped_more g.M.AsMapping.mapped (λ m. parts_digest (parts m)) c.mappings.digests.items c.push.new.self.items
    c.args.mappings.now c.mappings.mapping-index c.mapping-item.result c.mapping-item.is c.mappings-test.true c.mappings.invariant
    (c.in_ok-push.ensures.items ∙ ap (λ n. c.mappings.digests.items ++ n ∷ []) (c.key_digest.ensures ∙ ap parts_digest c.key.ensures))
