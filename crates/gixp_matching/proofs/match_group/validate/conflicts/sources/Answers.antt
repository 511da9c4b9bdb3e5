use Rattle.gixp_matching.specs.Validate.{sources_in}
use Rattle.gixp_matching.proofs.ListLemmas.{mapped_more}
use Rattle.gixp_matching.proofs.match_group.validate.conflicts.sources.Goals as goal

pub group-preserved : goal.group-preserved
group-preserved g c =
    mapped_more (λ m. g.M.AsMapping.mapped m.now) (λ m. m.source) (sources_in c.group.sources) (sources_in c.push_source.new.sources)
    c.args.group.now c.group.mapping-index c.mapping-item.result c.mapping-item.is c.group-test.true c.group.invariant
    c.in_ok-push_source.ensures
