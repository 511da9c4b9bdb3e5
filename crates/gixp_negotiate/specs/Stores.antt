-- Which stores of refs were listed, by what they recorded.
use Rattle.std.specs.Prelude.{◌≡◌, ◌⊎◌, ℕ, zero, suc, List, [], ◌∷◌, length, Option, Some, None, Result, Ok, Err}
use Rattle.std.specs.Borrow.{MutBor}
use Rattle.gixp_graph.specs.Refusals.{Written, writing}
use Rattle.gixp_graph.specs.declared.refs.RefStoreError.{RefStoreError}
use Rattle.gixp_negotiate.specs.declared.negotiate.Error.{Error}
use Rattle.gixp_negotiate.specs.declared.negotiate.Error.TheVariants.{AlternateRefsAndObjects, Memory}
use Rattle.gixp_negotiate.specs.Negotiate.{ActionValue, no_change, skip, negotiate}
use Rattle.gixp_negotiate.specs.NegotiateError.{from_refs}

-- the recorded listings of a store
abbrev pub Listings : Type 0 → Type 0
Listings R = R → Written (Option RefStoreError)

module _ {R : Type 0} (listings : Listings R) where
  -- the store listed its refs
  abbrev pub HasListed : R → R → Type 0
  HasListed old new = listings new ≡ writing (listings old) None

  -- the store failed to list its refs, and the error reports that
  abbrev pub RefusesToList : {A : Type 0} → R → R → Error A → Type 0
  RefusesToList old new e = (x : RefStoreError) × (e ≡ from_refs x) × (listings new ≡ writing (listings old) (Some x))

  -- so many first stores were listed, and the others are unchanged
  abbrev pub ListsFront : ℕ → List R → List R → Type 0
  ListsFront zero old new = new ≡ old
  ListsFront (suc k) (a ∷ old) (b ∷ new) = HasListed a b × ListsFront k old new
  ListsFront (suc k) _ _ = ⊥

  -- after so many stores the next one failed, or its ids couldn't be stored; those after it are unchanged
  abbrev pub ListsUpTo : {A : Type 0} → ℕ → List R → List R → Error A → Type 0
  ListsUpTo zero (a ∷ old) (b ∷ new) e = (RefusesToList a b e ⊎ (HasListed a b × (e ≡ Memory))) × (new ≡ old)
  ListsUpTo (suc k) (a ∷ old) (b ∷ new) e = HasListed a b × ListsUpTo k old new e
  ListsUpTo _ _ _ e = ⊥

-- the alternates, or why they can't be opened
abbrev pub Lent : Type 0 → Type 0 → Type 0
Lent R A = Result (List R) A

abbrev pub lent_value : {R A : Type 0} → Result (MutBor (List R)) A → Lent R A
lent_value (Ok stores) = Ok stores.now
lent_value (Err a) = Err a

module _ {R A : Type 0} (listings : Listings R) where
  -- all alternates were listed
  abbrev pub ListsLent : Lent R A → Lent R A → Type 0
  ListsLent (Ok old) (Ok new) = ListsFront listings (length old) old new
  ListsLent _ _ = ⊥

  -- one of the alternates failed; or they can't be opened, and none are left
  abbrev pub RefusesLent : Lent R A → Lent R A → Error A → Type 0
  RefusesLent (Ok old) (Ok new) e = (k : ℕ) × ListsUpTo listings k old new e
  RefusesLent (Err a) (Ok new) e = (e ≡ AlternateRefsAndObjects a) × (new ≡ [])
  RefusesLent _ (Err a) e = ⊥

  -- the refs of a repository and of its alternates are listed if the fetch has to negotiate, and otherwise aren't touched
  abbrev pub ListsBy : ActionValue → R → Lent R A → R → Lent R A → Type 0
  ListsBy (negotiate known) refs lent refs' lent' = HasListed listings refs refs' × ListsLent lent lent'
  ListsBy no_change refs lent refs' lent' = (refs' ≡ refs) × (lent' ≡ lent)
  ListsBy skip refs lent refs' lent' = (refs' ≡ refs) × (lent' ≡ lent)
