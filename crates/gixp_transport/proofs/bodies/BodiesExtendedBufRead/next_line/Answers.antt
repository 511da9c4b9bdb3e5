use Rattle.std.proofs.Common.{Ok, sym, subst}
use Rattle.gixp_packetline.specs.Reading.{Reading, Reads}
use Rattle.gixp_packetline.specs.Packets.{packets_reading, memory_remaining}
use Rattle.gixp_transport.specs.Bodies.{bodies_held}
use Rattle.gixp_transport.proofs.HeldLemmas.{reads}
use Rattle.gixp_transport.proofs.bodies.BodiesExtendedBufRead.next_line.Goals as goal

-- freeing bytes that were read doesn't change the packet lines to come
pub returns-in-Ok-false-clause-reads : goal.returns-in-Ok-false-clause-reads
returns-in-Ok-false-clause-reads c =
    let b = c.args.self.now in
    let old = packets_reading memory_remaining b.packets in
    let taken = packets_reading memory_remaining c.next_line-read.new.self in
    let value = Ok c.in-Ok-false.field-0 in
    let P : Reading → Type 0 = λ r. Reads (record old { held = bodies_held b }) (record r { held = bodies_held b }) value in
    subst P (sym c.free_read.ensures) (reads (bodies_held b) old taken value c.in-Ok-false.ensures.reads)
