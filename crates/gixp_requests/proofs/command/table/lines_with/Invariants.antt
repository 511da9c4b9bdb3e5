-- The entries so far were appended.
use Rattle.std.proofs.Common.{◌≡◌, take}
use Rattle.gixp_requests.specs.Feature.{feature_values}
use Rattle.gixp_requests.specs.Command.{texts, entries_of, lines_with}
use Rattle.gixp_requests.proofs.command.table.lines_with.Given as goal

abbrev pub invariant-loop-entry : goal.invariant-loop-entry
invariant-loop-entry l = texts l.lines ≡ lines_with (feature_values l.features) (take l.entry-index (entries_of l.entries))
