use Rattle.gixp_updates.specs.RefNames.{is_named}
use Rattle.gixp_updates.proofs.NamedLemmas.{no_names, names_more}
use Rattle.gixp_updates.proofs.refs.named.names_of.Goals as goal

pub refs-init : goal.refs-init
refs-init c = λ text. no_names text c.new-names.result c.new-names.ensures.empty

pub refs-preserved : goal.refs-preserved
refs-preserved c =
    names_more is_named c.args.refs.now c.refs.found-index c.found-item.result c.refs.names c.add_ref.new.names
    c.found-item.is c.refs-test.true c.refs.invariant c.in_ok-add_ref.ensures
