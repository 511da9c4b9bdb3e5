use Rattle.std.proofs.Common.{◌≡◌, ◌++◌, map, take}
use Rattle.gixp_matching.specs.Validate.{removed_of}
use Rattle.gixp_records.specs.MappingEntry.{entry_value}
use Rattle.gixp_records.specs.MapRecords.{removed_entry}
use Rattle.gixp_records.proofs.mapped_refs.push_fixes.Given as goal

abbrev pub invariant-loop-fix : goal.invariant-loop-fix
invariant-loop-fix l = map entry_value l.all.items ≡ map entry_value l.fn.all.items
    ++ map (removed_entry l.refs l.specs) (map removed_of (take l.fix-index l.fixes))
