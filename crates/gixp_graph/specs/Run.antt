-- Calls on a negotiator and a graph, and sequences of them.
use Rattle.std.specs.Prelude.{◌≡◌, ⊤, List, [], ◌∷◌, Option}
use Rattle.gixp_hash.specs.declared.object_id.ObjectId.{ObjectId}
use Rattle.gixp_graph.specs.GraphData.{GraphData}
use Rattle.gixp_graph.specs.declared.negotiator.NegotiatorError.{NegotiatorError}

-- what a call with an id does, as a relation between the states before and after it
abbrev pub Call : Type 0 → Type 1
Call N = N → GraphData → ObjectId → N → GraphData → Type 0

-- what an offer does, by the commit that it offers
abbrev pub Offer : Type 0 → Type 1
Offer N = N → GraphData → Option ObjectId → N → GraphData → Type 0

-- what a failed call with an id leaves, by its error
abbrev pub RefusedCall : Type 0 → Type 1
RefusedCall N = N → GraphData → ObjectId → NegotiatorError → N → GraphData → Type 0

-- what a failed offer leaves, by its error
abbrev pub RefusedOffer : Type 0 → Type 1
RefusedOffer N = N → GraphData → NegotiatorError → N → GraphData → Type 0

-- a failed call, and a failed offer, may leave anything
abbrev pub AnyCallLeft : {N : Type 0} → RefusedCall N
AnyCallLeft n g id e m h = ⊤

abbrev pub AnyOfferLeft : {N : Type 0} → RefusedOffer N
AnyOfferLeft n g e m h = ⊤

-- the same call with each of these ids, in order
abbrev pub IsRun : {N : Type 0} → Call N → List ObjectId → N → GraphData → N → GraphData → Type 0
IsRun call [] n g m h = (m ≡ n) × (h ≡ g)
IsRun {N} call (id ∷ ids) n g m h = (k : N) × (i : GraphData) × call n g id k i × IsRun call ids k i m h
