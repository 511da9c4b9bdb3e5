-- A negotiator that counts no failures of its own.
use Rattle.std.specs.Prelude.{ℕ}
use Rattle.gixp_graph.specs.GraphData.{GraphData}
use Rattle.gixp_graph.specs.Run.{Call, Offer, AnyCallLeft, AnyOfferLeft}
use Rattle.gixp_graph.specs.Negotiation.{NegotiatorCalls}

-- its calls by the haves that it may still offer, and by what `known_common`, `add_tip`, `in_common_with_remote` and
-- `next_have` do; a failed call may leave anything
abbrev pub calls_of : {N : Type 0} → (N → GraphData → ℕ) → Call N → Call N → Call N → Offer N → NegotiatorCalls N
calls_of count knows adds learns offers = record {
  count = count;
  failures = λ n. 0;
  knows = knows;
  adds = adds;
  learns = learns;
  offers = offers;
  knowing_fails = AnyCallLeft;
  adding_fails = AnyCallLeft;
  learning_fails = AnyCallLeft;
  offering_fails = AnyOfferLeft;
}
