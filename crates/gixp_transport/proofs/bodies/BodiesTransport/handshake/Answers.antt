use Rattle.std.proofs.Common.{inr}
use Rattle.gixp_transport.specs.Bodies.{bodies_held, bodies_reading}
use Rattle.gixp_transport.specs.CapabilityAdvertisement.{advertisement, TakesFirst}
use Rattle.gixp_transport.proofs.HeldLemmas.{advertises}
use Rattle.gixp_transport.proofs.bodies.BodiesTransport.handshake.Goals as goal

pub returns-in-Ok : goal.returns-in-Ok
returns-in-Ok c =
    let mid = c.take_answer.new.self in
    record {
      handshakes = inr (
        bodies_reading mid,
        c.in-Ok.ensures.0,
        c.in-Ok.ensures.1,
        advertises (bodies_held mid) _ _ advertisement TakesFirst _ c.advertisement.ensures,
      );
    }
