use Rattle.std.proofs.Common.{ap}
use Rattle.gixp_engine.proofs.session.fetch_filtered.Goals as goal

pub returns : goal.returns
returns g c = record {
  first = c.new-filtered.result;
  last = _;
  negotiation = ap (λ b. b.now) c.new-filtered.ensures.negotiation;
  filtered = c.new-filtered.ensures.filter;
  carries = c.fetch_over.ensures;
}
