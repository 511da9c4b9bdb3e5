use Rattle.gixp_packetline.proofs.WindowLemmas.{received}
use Rattle.std.proofs.Common.{sym, ap, arith, length, ◌≡◌}
use Rattle.gixp_packetline.specs.Window.{Shown}
use Rattle.gixp_packetline.proofs.window.Window.receive.Goals as goal

pub returns-in-Ok : goal.returns-in-Ok
returns-in-Ok g c =
    let i = c.self.inside in
    let b = c.read_after-received in
    let is = ap (λ (s : Shown). s.pending) (sym c.self.view_is) in
    let bytes = rw c.in-Ok.is at b.ensures.bytes in
    let cap : length i.bytes.items ≡ 65520 = omega arith in
    let cap2 : length b.new.buffer.items ≡ 65520 = omega (arith, b.ensures.len, c.to_front.ensures.len) in
    rw c.in-Ok.is (received _ _ i.bytes.items c.to_front.new.buffer.items b.new.buffer.items c.args.self.now.pending i.start i.end c.in-Ok.n
    c.self.invariant.1 (omega arith) cap2 c.to_front.ensures.moved b.ensures.front is bytes.0 bytes.1 bytes.2 c.requires)
