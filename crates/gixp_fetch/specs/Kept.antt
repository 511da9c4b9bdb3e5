-- The calls of a fetch on the store of the shallow boundary, in order, and how often it asks the interrupt.
use Rattle.std.specs.Prelude.{◌≡◌, ◌⊎◌, ⊤, ℕ, zero, suc, ◌+◌, Bool, true, false, List, [], ◌∷◌, ◌++◌, Option, Some, None, IfSome, Result, Ok, Err}
use Rattle.gixp_hash.specs.declared.object_id.ObjectId.{ObjectId}
use Rattle.gixp_sidebands.specs.Questions.{TakesTexts}
use Rattle.gixp_shallow.specs.declared.update.ShallowUpdate.{ShallowUpdate}
use Rattle.gixp_fetch.specs.declared.options.Outcome.{Outcome}
use Rattle.gixp_fetch.specs.declared.error.Error.{Error}
use Rattle.gixp_fetch.specs.FetchRounds.{Turn}
use Rattle.gixp_fetch.specs.FetchShallow.{no_change}
use Rattle.gixp_shallow.specs.Boundary.{IsBoundary}
use Rattle.gixp_shallow.specs.Store.{StoreCalls}
use Rattle.gixp_fetch.specs.Fetch.{Parties, FetchOptions}
use Rattle.gixp_fetch.specs.Fetched.{FetchCall}
use Rattle.gixp_fetch.specs.Sessions.{AreAnswers, rounds_of}

-- the shallow updates of these responses, in order
abbrev pub reported_in : {N I : Type 0} → List (Turn N I) → List ShallowUpdate
reported_in [] = []
reported_in (t ∷ ts) = t.reply.shallow_updates ++ reported_in ts

module _ {S : Type 0} (calls : StoreCalls S) (fetch_options : FetchOptions) (updates : List ShallowUpdate) where
  -- the calls, in order: the lock is taken if the boundary may change; the boundary is read; the lock is taken if the boundary
  -- changes and it isn't held, unless that is rejected; the new boundary is written if it changes; a lock that is
  -- held is released
  pub record CallsStore (old new : S) : Type 0 where
    pub held : S
    pub first : ((fetch_options.shallow ≡ no_change) × (held ≡ old)) ⊎ ((fetch_options.shallow ≡ no_change → ⊥) × calls.locks old held)
    pub ids : List ObjectId
    pub read : S
    pub reads : calls.reads held ids read
    pub had : S
    pub later : ((updates ≡ []) × (had ≡ read)) ⊎ ((updates ≡ [] → ⊥) × (fetch_options.shallow ≡ no_change → ⊥) × (had ≡ read))
        ⊎ ((updates ≡ [] → ⊥) × (fetch_options.shallow ≡ no_change) × (fetch_options.reject ≡ false) × calls.locks read had)
    pub wrote : S
    pub writes : ((updates ≡ []) × (wrote ≡ had)) ⊎ ((updates ≡ [] → ⊥) × (set : List ObjectId) × IsBoundary ids updates set
        × calls.writes had set wrote)
    pub last : ((updates ≡ []) × (fetch_options.shallow ≡ no_change) × (new ≡ wrote))
        ⊎ (((updates ≡ [] → ⊥) ⊎ (fetch_options.shallow ≡ no_change → ⊥)) × calls.releases wrote new)

module _ {N I S A C P X : Type 0} (parties : Parties N I A S C P X) (call : FetchCall) where
  -- the calls of a fetch that doesn't fail; the updates are of all responses, then of the handshake
  abbrev pub KeepsStore : S → Result (Option Outcome) (Error A X) → S → Type 0
  KeepsStore old (Ok (Some outcome)) new = (banded : Bool) × (turns : List (Turn N I))
      × (outcome.negotiate.rounds.items ≡ rounds_of turns) × AreAnswers call.version banded turns
      × CallsStore parties.store_calls call.fetch_options (reported_in turns ++ call.fetch_options.reported) old new
  KeepsStore old (Ok None) new = CallsStore parties.store_calls call.fetch_options [] old new
  KeepsStore old (Err e) new = ⊤

-- ---- the interrupt

module _ {I : Type 0} (polls : I → Bool → I → Type 0) where
  -- the interrupt was asked so often, and let the fetch go on each time
  abbrev pub PollsGoOn : ℕ → I → I → Type 0
  PollsGoOn zero a b = b ≡ a
  PollsGoOn (suc n) a b = (mid : I) × polls a false mid × PollsGoOn n mid b

-- for each of these responses so many packets of bands 2 and 3 were read; none count without `sideband-all`
abbrev pub HaveTexts : {N I : Type 0} → Bool → List (Turn N I) → List ℕ → Type 0
HaveTexts banded [] [] = ⊤
HaveTexts banded [] (n ∷ ns) = ⊥
HaveTexts banded (t ∷ ts) [] = ⊥
HaveTexts false (t ∷ ts) (n ∷ ns) = (n ≡ 0) × HaveTexts false ts ns
HaveTexts true (t ∷ ts) (n ∷ ns) = IfSome t.sent.to_come (TakesTexts n t.sent t.after.reading) × HaveTexts true ts ns

-- the number of questions: one before each round, and one after each of these packets
abbrev pub questions : List ℕ → ℕ
questions [] = 0
questions (n ∷ ns) = suc (n + questions ns)

-- these rounds asked the interrupt so often
abbrev pub AsksRounds : {N I : Type 0} → (I → Bool → I → Type 0) → Bool → List (Turn N I) → I → I → Type 0
AsksRounds polls banded turns first last = (counts : List ℕ) × HaveTexts banded turns counts × PollsGoOn polls (questions counts) first last
