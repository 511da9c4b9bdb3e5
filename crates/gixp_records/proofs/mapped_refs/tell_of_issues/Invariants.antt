use Rattle.std.proofs.Common.{◌≡◌, map, take}
use Rattle.gixp_matching.specs.Validate.{conflict_of}
use Rattle.gixp_records.specs.MappingEntry.{entry_value}
use Rattle.gixp_records.specs.MapRecords.{conflict_entry}
use Rattle.gixp_records.proofs.mapped_refs.tell_of_issues.Given as goal

abbrev pub invariant-loop-issue : goal.invariant-loop-issue
invariant-loop-issue l = map entry_value l.all.items ≡ map (conflict_entry l.specs) (map conflict_of (take l.issue-index l.issues))
