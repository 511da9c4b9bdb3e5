-- The effect of a call that looks commits up in a graph.
use Rattle.std.specs.Prelude.{◌≡◌, ◌≤◌, Result, Ok, IfErr, OnOk}
use Rattle.gixp_graph.specs.declared.negotiator.NegotiatorError.{NegotiatorError}
use Rattle.gixp_graph.specs.GraphData.{GraphValue}
use Rattle.gixp_graph.specs.Negotiation.{IsRefusal, ErrorIsLookupRefusal}
use Rattle.gixp_negotiators.specs.Marks.{COMMON, SEEN, left}
use Rattle.gixp_negotiators.specs.AddedMarks.{Grows}

-- the graph only grows, so no more commits lack a mark. Failed look-ups are counted. The call returns the error of a
-- failed look-up, or an allocation failed
pub record LooksUpCommits {T : Type 0} (old new : GraphValue) (result : Result T NegotiatorError) : Type 0 where
  pub grows : Grows old.graph new.graph
  pub seen : left SEEN new.graph ≤ left SEEN old.graph
  pub common : left COMMON new.graph ≤ left COMMON old.graph
  pub failures : old.failures ≤ new.failures
  pub failed : IfErr result (IsRefusal 0 0 old.failures new.failures)
  pub unrefused : OnOk result (new.refusals ≡ old.refusals)
  pub refused : IfErr result (λ e. ErrorIsLookupRefusal e old.refusals new.refusals)

-- the same for calls that succeeded
abbrev pub LookedUp : GraphValue → GraphValue → Type 0
LookedUp old new = LooksUpCommits {T = Unit {0}} old new (Ok tt)
