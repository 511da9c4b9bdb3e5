use Rattle.bstr.specs.Owned.{bstring_bytes}
use Rattle.gixp_matching.proofs.SoughtLemmas.{names_more}
use Rattle.gixp_matching.proofs.match_group.sought.names_of.Goals as goal

pub names-preserved : goal.names-preserved
names-preserved c =
    names_more bstring_bytes c.args.names.now c.names.name-index c.name-item.result c.names.set c.add_name.new.set
    c.name-item.is c.names-test.true c.names.invariant c.in_ok-add_name.ensures
