-- The symrefs that were popped are in the map.
use Rattle.std.proofs.Common.{length}
use Rattle.gixp_refs.specs.V1Refs.{symref_values}
use Rattle.gixp_refs.proofs.TableLemmas.{MakesTable}
use Rattle.gixp_refs.proofs.handshake.refs.symrefs.by_name.Given as goal

abbrev pub invariant-loop-name : goal.invariant-loop-name
invariant-loop-name l = MakesTable (symref_values l.fn.symrefs.items) (symref_values l.symrefs.items) l.targets.entries

abbrev pub decreases-loop-name : goal.decreases-loop-name
decreases-loop-name l = length l.symrefs.items
