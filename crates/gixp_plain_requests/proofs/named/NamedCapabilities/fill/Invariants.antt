-- The bytes that are still to pass on stay the same. Each turn reads more of them into the room.
use Rattle.std.proofs.Common.{◌≡◌, ◌-◌, false}
use Rattle.std.specs.Io.KnownBytes.{Keeps}
use Rattle.gixp_plain_requests.specs.Advertisement.{to_come}
use Rattle.gixp_plain_requests.proofs.named.NamedCapabilities.fill.Given as goal

abbrev pub invariant-loop : goal.invariant-loop
invariant-loop g l = record {
  bytes : Keeps (to_come g.R.Read.remaining l.fn.self) (to_come g.R.Read.remaining l.self);
  unnamed : l.self.is_named ≡ false;
}

abbrev pub decreases-loop : goal.decreases-loop
decreases-loop g l = 65540 - l.self.end
