use Rattle.std.proofs.Common.{◌≡◌, take, drop}
use Rattle.std.specs.Prelude.{All}
use Rattle.gixp_records.specs.Refs.{refs_in, IsRecordWithin, AreLinesTo}
use Rattle.gixp_records.proofs.refs.read_refs.Given as goal

abbrev pub invariant-loop-count : goal.invariant-loop-count
invariant-loop-count l = record {
  so_far : AreLinesTo l.bytes l.fn.from l.at (refs_in l.bytes (take l.count l.records));
  rest : drop l.count l.records ≡ drop l.count l.fn.records;
  within : All (IsRecordWithin l.bytes) (take l.count l.records);
}
