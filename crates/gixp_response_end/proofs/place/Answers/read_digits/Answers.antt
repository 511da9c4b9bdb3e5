use Rattle.std.specs.Io.KnownBytes.{Keeps}
use Rattle.gixp_response_end.specs.Answers.{to_come}
use Rattle.std.proofs.Common.{◌-◌, ◌≤◌, length, drop, arith, subst, sym, length-take}
use Rattle.gixp_response_end.proofs.AnswersLemmas.{takes_digits, told_digits}
use Rattle.gixp_response_end.proofs.place.Answers.read_digits.Goals as goal

pub returns-then-count-gt0-clause-bytes : goal.returns-then-count-gt0-clause-bytes
returns-then-count-gt0-clause-bytes g c =
    let s = c.args.self.now in
    let n = c.in_ok-count.count in
    let fits : n ≤ length c.read.new.buf = c.in_ok-count.ensures.bound.0 in
    let held = length-take (s.end - s.start) (drop s.start s.digits) in
    let first = (s.in_order.2 c.requires).0 in
    let few = (s.in_order.2 c.requires).1 in (
      subst (λ x. Keeps (to_come g.R.Read.remaining s) x) (sym c.take_digits.ensures.bytes)
          (takes_digits (g.R.Read.remaining s.reader) (g.R.Read.remaining c.read.new.self) s.advertised s.next _ c.read.new.buf _ n
          c.requires (omega (arith, held, few)) (omega (arith, held, few, fits)) fits
          (told_digits s.digits c.read.new.buf (drop (4 - s.end) (drop s.end s.digits)) s.start s.end n first
          (omega arith) fits) c.in_ok-count.ensures.bytes.0),
      c.take_digits.ensures.fewer,
    )
