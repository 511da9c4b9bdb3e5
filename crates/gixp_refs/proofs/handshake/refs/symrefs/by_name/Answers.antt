-- Each symref is popped from the end and inserted into the map.
use Rattle.std.proofs.Common.{rules}
use Rattle.gixp_refs.specs.V1Refs.{symref_value, symref_values}
use Rattle.gixp_refs.proofs.TableLemmas.{table-put, taken_off}
use Rattle.gixp_refs.proofs.handshake.refs.symrefs.by_name.Goals as goal

pub loop-name-init : goal.loop-name-init
loop-name-init c = search rules

pub loop-name-preserved : goal.loop-name-preserved
loop-name-preserved c =
    table-put (symref_values c.args.symrefs.items) (symref_values c.loop-name.symrefs.items)
    (symref_values c.pop.new.self.items) c.loop-name.targets.entries c.insert_target.new.targets.entries
    c.in-Some.name c.in-Some.target c.loop-name.invariant
    (taken_off symref_value c.loop-name.symrefs.items c.pop.new.self.items
    (c.in-Some.name, c.in-Some.target) c.in-Some.ensures.items) c.in_ok-insert_target.ensures
