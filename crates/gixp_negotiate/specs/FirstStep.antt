-- The first step of a negotiation: its context, what it doesn't change, and its errors.
use Rattle.std.specs.Prelude.{◌≡◌, ◌⊎◌, ◌≤◌, ◌++◌, ℕ, Bool, List, map}
use Rattle.gixp_hash.specs.declared.object_id.ObjectId.{ObjectId}
use Rattle.gixp_graph.specs.Object.{Objects}
use Rattle.gixp_graph.specs.GraphData.{GraphValue}
use Rattle.gixp_graph.specs.Negotiation.{NegotiatorCalls, IsRefusal}
use Rattle.gixp_graph.specs.declared.negotiator.NegotiatorError.{NegotiatorError}
use Rattle.gixp_refmap.specs.declared.refmap.mapping.Mapping.{Mapping}
use Rattle.gixp_shallow.specs.declared.shallow.Shallow.{Shallow}
use Rattle.gixp_negotiate.specs.declared.negotiate.Error.{Error}
use Rattle.gixp_negotiate.specs.declared.negotiate.negotiation.NegotiateContext.{NegotiateContext}
use Rattle.gixp_negotiate.specs.declared.negotiate.negotiation.Negotiation.{Negotiation}
use Rattle.gixp_negotiate.specs.Negotiate.{ActionValue}
use Rattle.gixp_negotiate.specs.NegotiateError.{IsNegotiatorRefusal}
use Rattle.gixp_negotiate.specs.Marking.{LocalRefs, listed, is_known, any_changed, any_unknown, chosen_action, decision, Acts, IsRefsRefusal, IsAlternatesRefusal}
use Rattle.gixp_negotiate.specs.Stores.{Listings, lent_value, ListsBy}
use Rattle.gixp_negotiate.specs.Stopped.{Step}

-- calls on a negotiator and a graph don't change the graph's objects, and counts of failures only rise
abbrev pub KeepsObjects : {N : Type 0} → NegotiatorCalls N → N → GraphValue → N → GraphValue → Type 0
KeepsObjects calls n g m h = (h.graph.objects ≡ g.graph.objects) × (calls.failures n ≤ calls.failures m) × (g.failures ≤ h.failures)

-- why such calls fail, by the negotiator's error and by the negotiation's
abbrev pub IsCallRefusal : {N : Type 0} → NegotiatorCalls N → N → GraphValue → N → GraphValue → NegotiatorError → Type 0
IsCallRefusal calls n g m h e = IsRefusal (calls.failures n) (calls.failures m) g.failures h.failures e

abbrev pub IsRoundRefusal : {N A : Type 0} → NegotiatorCalls N → N → GraphValue → N → GraphValue → Error A → Type 0
IsRoundRefusal calls n g m h e = IsNegotiatorRefusal (calls.failures n) (calls.failures m) g.failures h.failures e

module _ {O R N G E : Type 0} where
  -- the state of a step
  abbrev pub step_of : NegotiateContext O R N G E → Step N R E
  step_of c = record {
    negotiator = c.negotiator.now;
    graph = c.graph.now.graph;
    refusals = c.graph.now.refusals;
    refs = c.refs.now;
    lent = lent_value c.alternates;
  }

  -- the ids that the refs of the repository and of its alternates peel to
  abbrev pub tips_of : (R → List ObjectId) → NegotiateContext O R N G E → List ObjectId
  tips_of targets c = targets c.refs.now ++ listed targets c.alternates

  -- acting on a decision: complete commits are marked, and complete and common ones reported to the negotiator
  abbrev pub ActsIn : NegotiatorCalls N → (R → List ObjectId) → ActionValue → List ObjectId → NegotiateContext O R N G E
      → NegotiateContext O R N G E → Type 0
  ActsIn calls targets action ids old new =
      Acts calls action old.negotiator.now old.graph.now.graph ids (tips_of targets old) new.negotiator.now new.graph.now.graph

  -- the refs of all stores are listed if the fetch has to negotiate, and otherwise aren't touched
  abbrev pub ListsIn : Listings R → ActionValue → NegotiateContext O R N G E → NegotiateContext O R N G E → Type 0
  ListsIn listings action old new = ListsBy listings action old.refs.now (lent_value old.alternates) new.refs.now
      (lent_value new.alternates)

  -- no objects and no refs change, and counts of failures only rise
  abbrev pub KeepsStores : NegotiatorCalls N → (R → LocalRefs) → (R → List ObjectId) → (R → ℕ) → NegotiateContext O R N G E
      → NegotiateContext O R N G E → Type 0
  KeepsStores calls refs targets failures old new =
      (new.objects.now ≡ old.objects.now) × KeepsObjects calls old.negotiator.now old.graph.now new.negotiator.now new.graph.now
      × (refs new.refs.now ≡ refs old.refs.now) × (targets new.refs.now ≡ targets old.refs.now)
      × (failures old.refs.now ≤ failures new.refs.now)

  -- a call of the negotiator or of the graph's objects failed; or the refs, or the alternates' refs, can't be listed
  abbrev pub IsStepRefusal : NegotiatorCalls N → (R → ℕ) → NegotiateContext O R N G E → NegotiateContext O R N G E → Error E → Type 0
  IsStepRefusal calls failures old new e =
      IsRoundRefusal calls old.negotiator.now old.graph.now new.negotiator.now new.graph.now e
      ⊎ (IsRefsRefusal (failures old.refs.now) (failures new.refs.now) e ⊎ IsAlternatesRefusal failures old.alternates new.alternates e)

  -- the decision after the look-ups (`settled_by`), and the whole decision (`decided_by`)
  abbrev pub settled_by : (O → Objects) → (R → LocalRefs) → (Mapping → Bool) → Bool → List Mapping → NegotiateContext O R N G E
      → ActionValue
  settled_by contents refs ignores stays ms c =
      chosen_action stays (any_changed ignores (refs c.refs.now) ms) (any_unknown ignores c.graph.now.graph.objects
      (contents c.objects.now) ms) (map (is_known c.graph.now.graph.objects (contents c.objects.now)) ms)

  abbrev pub decided_by : (O → Objects) → (R → LocalRefs) → (Mapping → Bool) → Shallow → List Mapping → NegotiateContext O R N G E
      → ActionValue
  decided_by contents refs ignores shallow ms c =
      decision ignores c.graph.now.graph.objects (contents c.objects.now) (refs c.refs.now) shallow ms

  -- the options of a negotiation stay the same
  abbrev pub KeepsOptions : Negotiation O R N G E → Negotiation O R N G E → Type 0
  KeepsOptions n m = (m.ref_map.now ≡ n.ref_map.now) × (m.shallow.now ≡ n.shallow.now) × (m.tags ≡ n.tags)

  -- the context of a negotiation, with the alternates as its first step got them
  abbrev pub handing : Negotiation O R N G E → NegotiateContext O R N G E
  handing n = record n.context { alternates = n.handed }
