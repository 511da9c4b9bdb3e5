use Rattle.std.proofs.Common.{◌≡◌, take}
use Rattle.gixp_matching.specs.MatchGroup.{names}
use Rattle.gixp_records.specs.MapRecords.{names_in}
use Rattle.gixp_records.proofs.mapped_refs.items_of.Given as goal

abbrev pub invariant-loop-found : goal.invariant-loop-found
invariant-loop-found l = names l.items.items ≡ names_in l.bytes (take l.found-index l.refs)
