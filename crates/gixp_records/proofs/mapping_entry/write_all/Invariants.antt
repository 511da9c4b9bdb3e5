use Rattle.std.proofs.Common.{map}
use Rattle.gixp_records.specs.MappingEntry.{entry_value}
use Rattle.gixp_records.proofs.WrittenEntriesLemmas.{WroteSome}
use Rattle.gixp_records.proofs.mapping_entry.write_all.Given as goal

abbrev pub invariant-loop-place : goal.invariant-loop-place
invariant-loop-place l = WroteSome (map entry_value l.all) l.place l.fn.records l.fn.names l.records l.names l.at
