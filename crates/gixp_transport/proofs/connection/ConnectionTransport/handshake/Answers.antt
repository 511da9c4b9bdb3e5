use Rattle.std.proofs.Common.{inr}
use Rattle.gixp_transport.specs.Connection.{connection_held, connection_reading}
use Rattle.gixp_transport.specs.CapabilityAdvertisement.{advertisement, TakesFirst}
use Rattle.gixp_transport.proofs.HeldLemmas.{advertises}
use Rattle.gixp_transport.proofs.connection.ConnectionTransport.handshake.Goals as goal

pub returns : goal.returns
returns g c =
    let mid = c.greet.new.self in
    record {
      handshakes = inr (
        connection_reading g.R.Read.remaining g.W.Write.contents mid,
        c.in_ok-greet.ensures,
        advertises (connection_held g.W.Write.contents mid) _ _ advertisement TakesFirst _ c.advertisement.ensures,
      );
    }
