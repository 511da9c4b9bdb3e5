use Rattle.gixp_refmap.specs.SafeNames.{is_of_safety, pointed_to}
use Rattle.gixp_refmap.proofs.SafeLemmas.{chosen_more}
use Rattle.gixp_refmap.proofs.refmap.safe.of_safety.Goals as goal

pub mappings-preserved : goal.mappings-preserved
mappings-preserved c =
    chosen_more (is_of_safety c.args.is_safe) (pointed_to c.mappings.found.items) (pointed_to c.push_of_safety.new.found.items)
    c.args.mappings.now c.mappings.mapping-index c.mapping-item.result c.mapping-item.is c.mappings-test.true c.mappings.invariant
    c.in_ok-push_of_safety.ensures
