-- git's negotiators by their names (git-config, `fetch.negotiationAlgorithm`).
use Rattle.std.specs.Prelude.{◌≡◌, ◌⊎◌, ℕ, List, [], Option, None, map, codes}
use Rattle.std.specs.BinaryHeap.{heap_items}
use Rattle.std.specs.Char.{to_ascii_lowercase}
use Rattle.gixp_hash.specs.declared.object_id.ObjectId.{ObjectId}
use Rattle.gixp_graph.specs.GraphData.{GraphData}
use Rattle.gixp_negotiators.specs.declared.algorithm.Algorithm.{Algorithm}
use Rattle.gixp_negotiators.specs.declared.algorithm.Algorithm.TheVariants as kind
use Rattle.gixp_negotiators.specs.declared.algorithm.AnyNegotiator.{AnyNegotiator}
use Rattle.gixp_negotiators.specs.declared.algorithm.AnyNegotiator.TheVariants as any
use Rattle.gixp_negotiators.specs.declared.consecutive.Consecutive.{Consecutive}
use Rattle.gixp_negotiators.specs.declared.skipping.Skipping.{Skipping}
use Rattle.gixp_negotiators.specs.Calls.{KnowsInTurn, AddsInTurn, LearnsInTurn, OffersInTurn, KnowsSkipping, AddsSkipping, LearnsSkipping, OffersSkipping}

-- a text is this word, in letters of either case
abbrev pub IsWord : List ℕ → List ℕ → Type 0
IsWord text word = map to_ascii_lowercase text ≡ map to_ascii_lowercase word

-- the names of an algorithm
abbrev pub IsNameOf : Algorithm → List ℕ → Type 0
IsNameOf kind.Noop text = IsWord text (codes "noop")
IsNameOf kind.Consecutive text = IsWord text (codes "consecutive") ⊎ IsWord text (codes "default")
IsNameOf kind.Skipping text = IsWord text (codes "skipping")

-- ---- a negotiator without commits

abbrev pub IsNewInTurn : Consecutive → Type 0
IsNewInTurn n = (heap_items n.queue.waiting ≡ []) × (n.uncommon ≡ 0)

-- no commit is queued, and none has a distance
abbrev pub IsNewSkipping : Skipping → Type 0
IsNewSkipping n = (heap_items n.queue.waiting ≡ []) × (n.skips.entries ≡ []) × (n.unread.keys ≡ []) × (n.uncommon ≡ 0)

-- a negotiator without commits, of the kind that an algorithm names
abbrev pub IsNewOf : Algorithm → AnyNegotiator → Type 0
IsNewOf kind.Noop (any.Noop n) = Unit {0}
IsNewOf kind.Noop (any.Consecutive n) = ⊥
IsNewOf kind.Noop (any.Skipping n) = ⊥
IsNewOf kind.Consecutive (any.Noop n) = ⊥
IsNewOf kind.Consecutive (any.Consecutive n) = IsNewInTurn n
IsNewOf kind.Consecutive (any.Skipping n) = ⊥
IsNewOf kind.Skipping (any.Noop n) = ⊥
IsNewOf kind.Skipping (any.Consecutive n) = ⊥
IsNewOf kind.Skipping (any.Skipping n) = IsNewSkipping n

-- ---- what a negotiator's calls do, by its kind

abbrev pub KnowsByKind : AnyNegotiator → GraphData → ObjectId → AnyNegotiator → GraphData → Type 0
KnowsByKind (any.Noop n) g id m h = (m ≡ any.Noop n) × (h ≡ g)
KnowsByKind (any.Consecutive n) g id (any.Consecutive m) h = KnowsInTurn n g id m h
KnowsByKind (any.Consecutive n) g id (any.Noop m) h = ⊥
KnowsByKind (any.Consecutive n) g id (any.Skipping m) h = ⊥
KnowsByKind (any.Skipping n) g id (any.Skipping m) h = KnowsSkipping n g id m h
KnowsByKind (any.Skipping n) g id (any.Noop m) h = ⊥
KnowsByKind (any.Skipping n) g id (any.Consecutive m) h = ⊥

abbrev pub AddsByKind : AnyNegotiator → GraphData → ObjectId → AnyNegotiator → GraphData → Type 0
AddsByKind (any.Noop n) g id m h = (m ≡ any.Noop n) × (h ≡ g)
AddsByKind (any.Consecutive n) g id (any.Consecutive m) h = AddsInTurn n g id m h
AddsByKind (any.Consecutive n) g id (any.Noop m) h = ⊥
AddsByKind (any.Consecutive n) g id (any.Skipping m) h = ⊥
AddsByKind (any.Skipping n) g id (any.Skipping m) h = AddsSkipping n g id m h
AddsByKind (any.Skipping n) g id (any.Noop m) h = ⊥
AddsByKind (any.Skipping n) g id (any.Consecutive m) h = ⊥

abbrev pub LearnsByKind : AnyNegotiator → GraphData → ObjectId → AnyNegotiator → GraphData → Type 0
LearnsByKind (any.Noop n) g id m h = (m ≡ any.Noop n) × (h ≡ g)
LearnsByKind (any.Consecutive n) g id (any.Consecutive m) h = LearnsInTurn n g id m h
LearnsByKind (any.Consecutive n) g id (any.Noop m) h = ⊥
LearnsByKind (any.Consecutive n) g id (any.Skipping m) h = ⊥
LearnsByKind (any.Skipping n) g id (any.Skipping m) h = LearnsSkipping n g id m h
LearnsByKind (any.Skipping n) g id (any.Noop m) h = ⊥
LearnsByKind (any.Skipping n) g id (any.Consecutive m) h = ⊥

-- `noop` offers nothing
abbrev pub OffersByKind : AnyNegotiator → GraphData → Option ObjectId → AnyNegotiator → GraphData → Type 0
OffersByKind (any.Noop n) g have m h = (have ≡ None) × (m ≡ any.Noop n) × (h ≡ g)
OffersByKind (any.Consecutive n) g have (any.Consecutive m) h = OffersInTurn n g have m h
OffersByKind (any.Consecutive n) g have (any.Noop m) h = ⊥
OffersByKind (any.Consecutive n) g have (any.Skipping m) h = ⊥
OffersByKind (any.Skipping n) g have (any.Skipping m) h = OffersSkipping n g have m h
OffersByKind (any.Skipping n) g have (any.Noop m) h = ⊥
OffersByKind (any.Skipping n) g have (any.Consecutive m) h = ⊥
