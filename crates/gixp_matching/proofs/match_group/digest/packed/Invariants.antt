use Rattle.std.proofs.Common.{◌≡◌, take}
use Rattle.std.specs.List.{fold}
use Rattle.gixp_matching.specs.Digest.{step}
use Rattle.gixp_matching.proofs.match_group.digest.packed.Given as goal

abbrev pub invariant-bytes : goal.invariant-bytes
invariant-bytes l = l.now ≡ fold step l.number (take l.byte-index l.bytes)
