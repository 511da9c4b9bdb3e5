use Rattle.std.proofs.Common.{◌≡◌, map, take}
use Rattle.gixp_matching.specs.MatchGroup.{mapped_of}
use Rattle.gixp_records.specs.MappingEntry.{entry_value}
use Rattle.gixp_records.specs.MapRecords.{mapping_entry}
use Rattle.gixp_records.proofs.mapped_refs.tell_of_mappings.Given as goal

abbrev pub invariant-loop-mapping : goal.invariant-loop-mapping
invariant-loop-mapping l = map entry_value l.all.items ≡ map (mapping_entry l.refs) (map mapped_of (take l.mapping-index l.found))
