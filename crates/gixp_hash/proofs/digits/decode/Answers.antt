use Rattle.std.proofs.Common.{arith, ◌+◌, ◌*◌, slice_index, ◌∙◌}
use Rattle.std.proofs.lemmas.List.{length-set}
use Rattle.hex.proofs.Pairs.{decode_step, decode_done}
use Rattle.gixp_hash.proofs.DigitLemmas.{pair_reads, decode_of-pairs}
use Rattle.gixp_hash.proofs.digits.decode.Goals as goal

pub loop-i-preserved : goal.loop-i-preserved
loop-i-preserved c =
    let text = c.args.digits.now in
    let i = c.loop-i.i in
    let high = c.in_ok-values.ensures (2 * i) (omega arith) in
    let low = c.in_ok-values.ensures (2 * i + 1) (omega arith) in (
      length-set _ _ _ ∙ c.loop-i.invariant.0,
      decode_step text c.loop-i.bytes i _ (omega arith) (omega arith)
          (pair_reads (slice_index text (2 * i)) (slice_index text (2 * i + 1)) (2 * i)
          (slice_index c.in_ok-values.values (2 * i)) (slice_index c.in_ok-values.values (2 * i + 1)) high.0 low.0 high.1 low.1)
          c.loop-i.invariant.1,
    )

pub returns : goal.returns
returns c =
    decode_of-pairs c.args.digits.now c.requires
    ∙ decode_done c.args.digits.now c.loop-i.bytes c.loop-i.i (omega arith) (omega arith) c.loop-i.invariant.1
