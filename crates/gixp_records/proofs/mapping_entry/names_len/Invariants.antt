use Rattle.std.proofs.Common.{◌≡◌, ◌-◌, ◌^◌, min, map, take, length}
use Rattle.gixp_records.specs.MappingEntry.{entry_value, local_names}
use Rattle.gixp_records.proofs.mapping_entry.names_len.Given as goal

abbrev pub invariant-loop-entries : goal.invariant-loop-entries
invariant-loop-entries l = l.len ≡ min (length (local_names (map entry_value (take l.entries-index l.all)))) (2 ^ 64 - 1)
