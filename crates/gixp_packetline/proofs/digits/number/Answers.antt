use Rattle.std.proofs.Common.{arith, ◌<◌, slice_index}
use Rattle.gixp_hash.proofs.DigitLemmas.{digit_reads}
use Rattle.gixp_packetline.proofs.NumberLemmas.{four_read}
use Rattle.gixp_packetline.proofs.digits.number.Goals as goal

pub returns-then-max-lt16 : goal.returns-then-max-lt16
returns-then-max-lt16 c =
    let la : c.digit_value-a.result < 16 = omega arith in
    let lb : c.digit_value-b.result < 16 = omega arith in
    let lc : c.digit_value-c.result < 16 = omega arith in
    let ld : c.digit_value-d.result < 16 = omega arith in
    rw (c.from.ensures, c.from-then-max-lt16.ensures, c.from-then-max-lt16-2.ensures, c.from-then-max-lt16-3.ensures)
    (four_read c.args.digits.now c.digit_value-a.result c.digit_value-b.result c.digit_value-c.result c.digit_value-d.result c.requires
    (digit_reads (slice_index c.args.digits.now 0) c.digit_value-a.result c.digit_value-a.ensures la)
    (digit_reads (slice_index c.args.digits.now 1) c.digit_value-b.result c.digit_value-b.ensures lb)
    (digit_reads (slice_index c.args.digits.now 2) c.digit_value-c.result c.digit_value-c.ensures lc)
    (digit_reads (slice_index c.args.digits.now 3) c.digit_value-d.result c.digit_value-d.ensures ld) la lb lc ld)
