-- Stores that are listed one after another.
use Rattle.std.proofs.Common.{◌≡◌, ◌⊎◌, ℕ, ◌+◌, ◌<◌, zero, suc, List, [], ◌∷◌, length, get_or, set, drop, ◌++◌, append_assoc, refl, sym, ap, ◌∙◌, subst, arith, ◌||◌, if◌then◌else◌}
use Rattle.std.proofs.Math.Numerals.{add-one}
use Rattle.std.proofs.Math.Seq.{drop-cons}
use Rattle.std.specs.List.{flat_map}
use Rattle.gixp_hash.specs.declared.object_id.ObjectId.{ObjectId}
use Rattle.std.proofs.Common.{inl, inr, Bool, true, false, Some, None}
use Rattle.gixp_refmap.specs.declared.refmap.mapping.Mapping.{Mapping}
use Rattle.gixp_shallow.specs.declared.shallow.Shallow.{Shallow}
use Rattle.gixp_negotiate.specs.declared.negotiate.Error.{Error}
use Rattle.gixp_negotiate.specs.declared.negotiate.Error.TheVariants.{Memory}
use Rattle.gixp_negotiate.specs.Negotiate.{ActionValue, no_change, skip, negotiate}
use Rattle.gixp_negotiate.specs.Marking.{early, settled, chosen_action, is_lone_unborn, has_none}
use Rattle.gixp_shallow.specs.Shallow.{is_deepen_zero}
use Rattle.gixp_negotiate.specs.Stopped.{IsNegotiate}
use Rattle.gixp_negotiate.specs.Stores.{Listings, HasListed, RefusesToList, ListsFront, ListsUpTo, Lent, ListsBy}

module _ {R : Type 0} (listings : Listings R) (d b : R) where
  front_suc : (k : ℕ) (old mid : List R) → ListsFront listings k old mid → k < length mid → HasListed listings (get_or mid k d) b
      → ListsFront listings (suc k) old (set mid k b)
  front_suc zero old [] f h l = absurd (omega arith)
  front_suc zero old (x ∷ mid) f h l = subst (λ o. ListsFront listings (suc zero) o (b ∷ mid)) f (l, refl)
  front_suc (suc k) [] mid f h l = absurd f
  front_suc (suc k) (a ∷ old) [] f h l = absurd f
  front_suc (suc k) (a ∷ old) (x ∷ mid) f h l = (f.0, front_suc k old mid f.1 (omega arith) l)

  -- one more store
  pub front_more : (k : ℕ) (old mid : List R) → ListsFront listings k old mid → k < length mid → HasListed listings (get_or mid k d) b
      → ListsFront listings (k + 1) old (set mid k b)
  front_more k old mid f h l = subst (λ n. ListsFront listings n old (set mid k b)) (sym (add-one k)) (front_suc k old mid f h l)

  -- the store that failed
  pub up_to : {A : Type 0} (k : ℕ) (old mid : List R) (e : Error A) → ListsFront listings k old mid → k < length mid
      → RefusesToList listings (get_or mid k d) b e ⊎ (HasListed listings (get_or mid k d) b × (e ≡ Memory))
      → ListsUpTo listings k old (set mid k b) e
  up_to zero old [] e f h l = absurd (omega arith)
  up_to zero old (x ∷ mid) e f h l = subst (λ o. ListsUpTo listings zero o (b ∷ mid) e) f (l, refl)
  up_to (suc k) [] mid e f h l = absurd f
  up_to (suc k) (a ∷ old) [] e f h l = absurd f
  up_to (suc k) (a ∷ old) (x ∷ mid) e f h l = (f.0, up_to k old mid e f.1 (omega arith) l)

-- the stores after this one aren't touched
drop_set : {R : Type 0} (xs : List R) (i : ℕ) (b : R) → drop (suc i) (set xs i b) ≡ drop (suc i) xs
drop_set [] i b = refl
drop_set (x ∷ xs) zero b = refl
drop_set (x ∷ xs) (suc i) b = drop_set xs i b

drop_suc : {R : Type 0} (i : ℕ) (xs : List R) → drop (suc i) xs ≡ drop 1 (drop i xs)
drop_suc zero xs = refl
drop_suc (suc i) [] = refl
drop_suc (suc i) (x ∷ xs) = drop_suc i xs

pub following_more : {R : Type 0} (stores old : List R) (i : ℕ) (b : R) → drop i stores ≡ drop i old
    → drop (i + 1) (set stores i b) ≡ drop (i + 1) old
following_more stores old i b e = subst (λ n. drop n (set stores i b) ≡ drop n old) (sym (add-one i))
    (drop_set stores i b ∙ (drop_suc i stores ∙ (ap (drop 1) e ∙ sym (drop_suc i old))))

-- the ids of one more store
pub listed_more : {R : Type 0} (targets : R → List ObjectId) (stores : List R) (i : ℕ) (d b : R) (ids more new whole : List ObjectId)
    → i < length stores → ids ++ flat_map targets (drop i stores) ≡ whole → more ≡ targets (get_or stores i d) → new ≡ ids ++ more
    → new ++ flat_map targets (drop (i + 1) (set stores i b)) ≡ whole
listed_more targets stores i d b ids more new whole h kept em en =
    let rest = flat_map targets (drop (suc i) stores) in
    ap (λ n. new ++ flat_map targets (drop n (set stores i b))) (add-one i)
    ∙ (ap (λ xs. new ++ flat_map targets xs) (drop_set stores i b)
    ∙ (ap (λ xs. xs ++ rest) (en ∙ ap (λ m. ids ++ m) em)
    ∙ (append_assoc ids (targets (get_or stores i d)) rest
    ∙ (ap (λ xs. ids ++ flat_map targets xs) (sym (drop-cons stores i d h)) ∙ kept))))

-- with any other decision nothing is listed
module _ {R A : Type 0} (listings : Listings R) (refs : R) (lent : Lent R A) where
  pub untouched : (a : ActionValue) → (a ≡ no_change) ⊎ (a ≡ skip) → ListsBy listings a refs lent refs lent
  untouched no_change h = (refl, refl)
  untouched skip h = (refl, refl)
  untouched (negotiate known) (inl e) = absurd (let n = e in cc)
  untouched (negotiate known) (inr e) = absurd (let n = e in cc)

  pub settled_lists : (a : ActionValue) (stays changed unknown : Bool) → Some a ≡ settled stays changed unknown
      → ListsBy listings a refs lent refs lent
  settled_lists a true false unknown e = untouched a (inl cc)
  settled_lists a true true false e = untouched a (inr cc)
  settled_lists a true true true e = absurd (let n = e in cc)
  settled_lists a false changed unknown e = absurd (let n = e in cc)

  early_at : (a : ActionValue) (b c : Bool) → Some a ≡ (if b then Some no_change else if c then Some skip else None)
      → ListsBy listings a refs lent refs lent
  early_at a true c e = untouched a (inl cc)
  early_at a false true e = untouched a (inr cc)
  early_at a false false e = absurd (let n = e in cc)

  pub early_lists : (a : ActionValue) (shallow : Shallow) (ms : List Mapping) → Some a ≡ early shallow ms
      → ListsBy listings a refs lent refs lent
  early_lists a shallow ms e = early_at a (has_none ms || is_deepen_zero shallow) (is_lone_unborn ms) e

-- without a decision before, the fetch has to negotiate
pub unsettled : (stays changed unknown ch un : Bool) (known : List Bool) → changed ≡ ch → unknown ≡ un
    → None ≡ settled stays changed unknown → IsNegotiate (chosen_action stays ch un known)
unsettled stays changed unknown ch un known ec eu e = at stays ch un (e ∙ (ap (λ b. settled stays b unknown) ec ∙ ap (settled stays ch) eu))
  where
    at : (s c u : Bool) → None ≡ settled s c u → IsNegotiate (chosen_action s c u known)
    at true false u n = absurd (let f = n in cc)
    at true true false n = absurd (let f = n in cc)
    at true true true n = tt
    at false c u n = tt
