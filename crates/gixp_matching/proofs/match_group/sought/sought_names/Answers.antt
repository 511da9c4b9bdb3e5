use Rattle.gixp_refspec.specs.RefSpec.{value_of}
use Rattle.gixp_refspec.specs.Texts.{texts}
use Rattle.gixp_matching.specs.Sought.{sought_by}
use Rattle.gixp_matching.proofs.ListLemmas.{gathered_more}
use Rattle.gixp_matching.proofs.match_group.sought.sought_names.Goals as goal

pub specs-preserved : goal.specs-preserved
specs-preserved c =
    gathered_more value_of sought_by (texts c.specs.names) (texts c.push_names.new.names) c.args.specs.now c.specs.spec-index
    c.spec-item.result c.spec-item.is c.specs-test.true c.specs.invariant c.in_ok-push_names.ensures
