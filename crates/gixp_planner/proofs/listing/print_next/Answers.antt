use Rattle.std.proofs.Common.{inr}
use Rattle.gixp_packetline.specs.Reading.{refusal_of}
use Rattle.gixp_planner.proofs.listing.print_next.Goals as goal

pub returns-in-Err : goal.returns-in-Err
returns-in-Err g c = inr (record {
  refusal = refusal_of c.in-Err.e;
  failed = c.in-Err.ensures.reads;
  is_plain = c.in-Err.ensures.plain;
  error = c.from.ensures;
})
