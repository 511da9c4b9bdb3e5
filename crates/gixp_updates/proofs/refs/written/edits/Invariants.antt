use Rattle.std.proofs.Common.{◌≡◌, ◌++◌, length}
use Rattle.gixp_updates.specs.NamedEdits.{edit_values, edits_named}
use Rattle.gixp_updates.proofs.refs.written.edits.Given as goal

abbrev pub invariant-loop-update : goal.invariant-loop-update
invariant-loop-update l = edit_values l.edits.items ++ edits_named l.mappings l.rest ≡ edits_named l.map.mappings.items l.updates

abbrev pub decreases-loop-update : goal.decreases-loop-update
decreases-loop-update l = length l.rest
