use Rattle.std.proofs.Common.{◌≡◌, ◌-◌, ◌≤◌, length, take, drop, map}
use Rattle.std.specs.Prelude.{All}
use Rattle.gixp_refs.specs.RefAdvertisement.{in_front}
use Rattle.gixp_records.specs.Refs.{refs_in, IsRecordWithin}
use Rattle.gixp_records.specs.V1RecordLine.{symref_at}
use Rattle.gixp_records.specs.RefsOpening.{advertised_lines}
use Rattle.gixp_records.specs.AdvertisedRecords.{IsSymrefScope, refs_following}
use Rattle.gixp_records.proofs.advertised.read_groups.Given as goal

abbrev pub invariant-loop-count : goal.invariant-loop-count
invariant-loop-count l = let t = map (symref_at l.bytes) l.symrefs in record {
  so_far : refs_following l.bytes l.opening t l.fn.from
      ≡ in_front (refs_in l.bytes (take l.count l.records)) (refs_following l.bytes l.opening t l.scope.place);
  ending : (advertised_lines l.bytes l.opening l.fn.from).ending ≡ (advertised_lines l.bytes l.opening l.scope.place).ending;
  scope : IsSymrefScope l.bytes l.opening t l.scope;
  rest : drop l.count l.records ≡ drop l.count l.fn.records;
  within : All (IsRecordWithin l.bytes) (take l.count l.records);
  room : l.count ≤ length l.records;
}

abbrev pub decreases-loop-count : goal.decreases-loop-count
decreases-loop-count l = length l.bytes - l.scope.at
