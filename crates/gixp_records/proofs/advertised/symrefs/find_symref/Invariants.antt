-- The symrefs before the rest have another name.
use Rattle.std.proofs.Common.{◌≡◌, map, length}
use Rattle.std.specs.Prelude.{All}
use Rattle.gixp_refs.specs.RefAdvertisement.{symref_named}
use Rattle.gixp_records.specs.V1RecordLine.{symref_at, IsSymrefWithin}
use Rattle.gixp_records.proofs.advertised.symrefs.find_symref.Given as goal

abbrev pub invariant-loop-symref : goal.invariant-loop-symref
invariant-loop-symref l = record {
  named : symref_named (map (symref_at l.bytes) l.symrefs) l.name ≡ symref_named (map (symref_at l.bytes) l.rest) l.name;
  within : All (IsSymrefWithin l.bytes) l.rest;
}

abbrev pub decreases-loop-symref : goal.decreases-loop-symref
decreases-loop-symref l = length l.rest
