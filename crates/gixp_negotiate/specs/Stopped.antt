-- How far a failed first step went: what was looked up, marked and reported stays.
use Rattle.std.specs.Prelude.{◌≡◌, ◌⊎◌, ⊤, List, ◌++◌, filter, IsTrue, IsSome, Option, ℤ}
use Rattle.std.specs.FinMap as finite
use Rattle.gixp_hash.specs.declared.object_id.ObjectId.{ObjectId}
use Rattle.gixp_graph.specs.Object.{commit_at}
use Rattle.gixp_graph.specs.GraphData.{GraphData, is_marked, OnlyMarks}
use Rattle.gixp_graph.specs.Complete.{IsComplete}
use Rattle.gixp_graph.specs.Refusals.{Written, ErrorIsRefusal}
use Rattle.gixp_graph.specs.Run.{IsRun}
use Rattle.gixp_graph.specs.Negotiation.{NegotiatorCalls}
use Rattle.gixp_graph.specs.declared.objects.ObjectError.{ObjectError}
use Rattle.gixp_graph.specs.declared.objects.ObjectError.TheVariants.{Memory}
use Rattle.gixp_graph.specs.declared.negotiator.NegotiatorError.{NegotiatorError}
use Rattle.gixp_graph.specs.declared.negotiator.NegotiatorError.TheVariants.{Lookup, Memory as no_memory}
use Rattle.gixp_negotiate.specs.declared.negotiate.Error.{Error}
use Rattle.gixp_negotiate.specs.Negotiate.{ActionValue, no_change, skip, negotiate}
use Rattle.gixp_negotiate.specs.NegotiateError.{from_object, from_negotiator}
use Rattle.gixp_negotiate.specs.Marking.{look_each, cutoff_of, tips_in, Walks}
use Rattle.gixp_negotiate.specs.Refused.{CallsSome}
use Rattle.gixp_negotiate.specs.Stores.{Listings, HasListed, RefusesToList, Lent, ListsLent, RefusesLent}

-- a first part of these ids were looked up, and nothing else was done
pub record LooksAtSome (ids : List ObjectId) (g h : GraphData) : Type 0 where
  pub looked : List ObjectId
  pub left : List ObjectId
  pub split : ids ≡ looked ++ left
  pub graph : h ≡ look_each looked g

-- a walk was under way, or at its end: each commit is as before, or is complete and got the mark
pub record WalksSome (g : GraphData) (ids : List ObjectId) (cutoff : Option ℤ) (h : GraphData) : Type 0 where
  pub objects : h.objects ≡ g.objects
  pub only_marks : OnlyMarks g h.held
  pub sound : (id : ObjectId) → IsTrue (is_marked h.held id) → IsTrue (is_marked g.held id) ⊎ IsComplete (commit_at g.objects) ids cutoff id
  pub held : (id : ObjectId) → IsSome (finite.get h.held id) → IsSome (finite.get g.held id)
      ⊎ IsComplete (commit_at g.objects) ids cutoff id

-- the error of a look-up
abbrev pub object_error : NegotiatorError → ObjectError
object_error (Lookup x) = x
object_error no_memory = Memory

-- how far the walk and the calls after it went, after ids and tips were looked up, and why; with the recorded errors
-- of the objects before and after it
pub data StopsLearning {N : Type 0} (calls : NegotiatorCalls N) (n : N) (g : GraphData) (refusals : Written ObjectError)
    (ids tips : List ObjectId) (cutoff : Option ℤ) (x : NegotiatorError) (m : N) (h : GraphData)
    (refusals' : Written ObjectError) : Type 0 where
  at_looks : ErrorIsRefusal (object_error x) refusals refusals' → m ≡ n → LooksAtSome tips g h
      → StopsLearning calls n g refusals ids tips cutoff x m h refusals'
  at_walk : ErrorIsRefusal (object_error x) refusals refusals' → m ≡ n → WalksSome (look_each tips g) tips cutoff h
      → StopsLearning calls n g refusals ids tips cutoff x m h refusals'
  at_known : (walked : GraphData) → Walks (look_each tips g) tips cutoff walked → CallsSome calls.knows calls.knowing_fails
      (filter (is_marked walked.held) ids) n walked x m h → StopsLearning calls n g refusals ids tips cutoff x m h refusals'
  at_tips : (walked reported_graph : GraphData) → (reported : N) → Walks (look_each tips g) tips cutoff walked
      → IsRun calls.knows (filter (is_marked walked.held) ids) n walked reported reported_graph
      → CallsSome calls.adds calls.adding_fails (tips_in g.objects tips) reported reported_graph x m h
      → StopsLearning calls n g refusals ids tips cutoff x m h refusals'

-- the decision is to negotiate
abbrev pub IsNegotiate : ActionValue → Type 0
IsNegotiate (negotiate known) = ⊤
IsNegotiate no_change = ⊥
IsNegotiate skip = ⊥

-- the state of a first step: the negotiator, the graph, the recorded errors of its objects, the refs of the
-- repository, and its alternates' refs
pub record Step (N R A : Type 0) : Type 0 where
  pub negotiator : N
  pub graph : GraphData
  pub refusals : Written ObjectError
  pub refs : R
  pub lent : Lent R A

-- how far a first step went, and why it failed. A first part of the mappings' commits were looked up; or all of
-- them, the fetch has to negotiate, and the refs can't be listed; or the alternates' can't, after the refs; or a later
-- step failed
pub data Stops {N R A : Type 0} (calls : NegotiatorCalls N) (listings : Listings R) (Negotiates : Type 0) (ids tips : List ObjectId)
    (old : Step N R A) (e : Error A) (new : Step N R A) : Type 0 where
  at_mappings : (x : ObjectError) → e ≡ from_object x → ErrorIsRefusal x old.refusals new.refusals → new.negotiator ≡ old.negotiator
      → LooksAtSome ids old.graph new.graph → new.refs ≡ old.refs → new.lent ≡ old.lent
      → Stops calls listings Negotiates ids tips old e new
  at_refs : Negotiates → RefusesToList listings old.refs new.refs e → new.negotiator ≡ old.negotiator
      → new.graph ≡ look_each ids old.graph → new.lent ≡ old.lent → Stops calls listings Negotiates ids tips old e new
  at_lent : Negotiates → HasListed listings old.refs new.refs → RefusesLent listings old.lent new.lent e
      → new.negotiator ≡ old.negotiator → new.graph ≡ look_each ids old.graph → Stops calls listings Negotiates ids tips old e new
  at_learning : Negotiates → HasListed listings old.refs new.refs → ListsLent listings old.lent new.lent → (x : NegotiatorError)
      → e ≡ from_negotiator x
      → StopsLearning calls old.negotiator (look_each ids old.graph) old.refusals ids tips
      (cutoff_of old.graph.objects ids) x new.negotiator new.graph new.refusals → Stops calls listings Negotiates ids tips old e new

-- the same after the ids were looked up
pub data StopsAfterLookups {N R A : Type 0} (calls : NegotiatorCalls N) (listings : Listings R) (ids tips : List ObjectId)
    (cutoff : Option ℤ) (old : Step N R A) (e : Error A) (new : Step N R A) : Type 0 where
  refs_refused : RefusesToList listings old.refs new.refs e → new.negotiator ≡ old.negotiator → new.graph ≡ old.graph
      → new.lent ≡ old.lent → StopsAfterLookups calls listings ids tips cutoff old e new
  lent_refused : HasListed listings old.refs new.refs → RefusesLent listings old.lent new.lent e → new.negotiator ≡ old.negotiator
      → new.graph ≡ old.graph → StopsAfterLookups calls listings ids tips cutoff old e new
  learning_stopped : HasListed listings old.refs new.refs → ListsLent listings old.lent new.lent → (x : NegotiatorError)
      → e ≡ from_negotiator x
      → StopsLearning calls old.negotiator old.graph old.refusals ids tips cutoff x new.negotiator new.graph new.refusals
      → StopsAfterLookups calls listings ids tips cutoff old e new
