use Rattle.gixp_packetline.proofs.WindowLemmas.{range_skipped}
use Rattle.std.proofs.Common.{arith, ap, length, ◌≡◌, List, ℕ}
use Rattle.std.specs.Prelude.{slice_range}
use Rattle.gixp_packetline.specs.Window.{Shown}
use Rattle.gixp_packetline.proofs.window.Window.skip.Goals as goal

pub returns : goal.returns
returns c =
    let i = c.self.inside in
    let fits = rw (← c.self.view_is) at c.requires in
    let cap : length i.bytes.items ≡ 65520 = omega arith in
    rw (← c.self.view_is) (ap (λ (l : List ℕ). let s : Shown =
    record { pending = l; lent = slice_range i.bytes.items i.line_start i.line_end } in s)
    (range_skipped i.bytes.items i.start i.end c.args.amount c.self.invariant.1 (omega arith) fits))
