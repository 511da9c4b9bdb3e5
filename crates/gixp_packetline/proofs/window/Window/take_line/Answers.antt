use Rattle.gixp_packetline.proofs.WindowLemmas.{range_skipped, range_part}
use Rattle.std.proofs.Common.{refl, arith, length, ◌≡◌}
use Rattle.gixp_packetline.proofs.window.Window.take_line.Goals as goal

pub returns : goal.returns
returns c =
    let i = c.self.inside in
    let fits = rw (← c.self.view_is) at c.requires.there in
    let cap : length i.bytes.items ≡ 65520 = omega arith in
    rw (
      ← c.self.view_is,
      range_skipped i.bytes.items i.start i.end c.args.amount c.self.invariant.1 (omega arith) fits,
      range_part i.bytes.items i.start i.end c.args.from c.args.amount c.self.invariant.1 (omega arith) c.requires.in_order fits,
    ) refl
