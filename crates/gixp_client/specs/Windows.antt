-- The limit of haves in a round.
use Rattle.std.specs.Prelude.{ℕ, ◌<◌, ◌≤◌, ◌-◌, ◌^◌, min, Bool, if◌then◌else◌}
use Rattle.std.proofs.Math.Nat.{le-min}
use Rattle.std.proofs.Common.{lt_of_lt_of_le, lit<}
use Rattle.gixp_packetline.specs.declared.protocol.Protocol.{Protocol}
use Rattle.gixp_packetline.specs.declared.protocol.Protocol.TheVariants.{V0, V1, V2}
use Rattle.gixp_negotiate.specs.Negotiate.{Window}

-- the limit of a client: over pipes a request of version 0 or 1 has at most 128 haves, so that the acknowledgements fit into a pipe;
-- otherwise the number has no limit
abbrev pub most_haves : Protocol → (is_over_pipes : Bool) → ℕ
most_haves V2 is_over_pipes = 2 ^ 64 - 1
most_haves V1 is_over_pipes = if is_over_pipes then 128 else 2 ^ 64 - 1
most_haves V0 is_over_pipes = if is_over_pipes then 128 else 2 ^ 64 - 1

-- the window of a round with at most this many haves
abbrev pub capped : ℕ → Window → Window
capped most s = record s { haves_to_send = min s.haves_to_send most }

-- the limit leaves at least one have
pub capped_some : (window most : ℕ) → 0 < window → 16 ≤ most → 0 < min window most
capped_some window most h k = le-min h (lt_of_lt_of_le (lit< tt) k)

-- the limit leaves at least 16 haves
pub capped_wide : (window most : ℕ) → 16 ≤ window → 16 ≤ most → 16 ≤ min window most
capped_wide window most h k = le-min h k
