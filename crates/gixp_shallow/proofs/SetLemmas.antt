-- Sorted lists of ids, as sets.
use Rattle.std.proofs.Common.{◌≡◌, ◌≢◌, ℕ, ◌<◌, length, zero, suc, arith, ◌⊎◌, inl, inr, Bool, true, false, cond, List, [], ◌∷◌, refl, sym, ap, subst, ◌∙◌, true≢false}
use Rattle.std.specs.Prelude.{◌↔◌, ◌||◌, ◌&&◌, not, slice_index_or}
use Rattle.std.specs.List.{list_any, AllByRecursion, Contains}
use Rattle.std.specs.List.Sorted.{IsStrictlySortedBy}
use Rattle.std.specs.Set.{remove_key}
use Rattle.std.specs.BTreeMap.{is_at}
use Rattle.std.specs.BTreeSet.{insert_key}
use Rattle.std.specs.declared.cmp.Ordering.{Ordering}
use Rattle.std.specs.declared.cmp.Ordering.TheVariants.{Less, Equal, Greater}
use Rattle.std.specs.Ordering.{is_eq, eq_by_cmp, match_ordering, ordering_reverse}
use Rattle.std.specs.Cmp.{IsTotalOrder, IsEquivalence, eq_by_cmp_equiv}
use Rattle.std.proofs.lemmas.Map.Lookups.{CmpEqualImpliesEq}
use Rattle.std.proofs.lemmas.Map.Views.{Contains-from_any, list_any-from_Contains, tells_apart}
use Rattle.gixp_hash.specs.declared.object_id.ObjectId.{ObjectId}
use Rattle.gixp_hash.specs.ObjectId.{id_cmp}
use Rattle.gixp_shallow.specs.declared.update.ShallowUpdate.{ShallowUpdate}
use Rattle.gixp_shallow.specs.declared.update.ShallowUpdate.TheVariants.{Shallow as becomes_shallow, Unshallow as becomes_whole}
use Rattle.gixp_hash.specs.IdLaws.{ids_exact, ids_total}
use Rattle.gixp_shallow.specs.Boundary.{IsSetOf, StaysIn, IsBoundary}
use Rattle.gixp_shallow.specs.Boundary.{with_ids, with_updates, boundary}

module _ {K : Type 0} {R : K → K → Ordering} (o : IsTotalOrder R) (exact : CmpEqualImpliesEq R) where
  -- ---- sorted lists
  all_inserted : (P : K → Type 0) (k : K) (xs : List K) → P k → AllByRecursion P xs → AllByRecursion P (insert_key R xs k)
  all_inserted P k [] p a = (p, a)
  all_inserted P k (x ∷ xs) p a = at (R k x) (all_inserted P k xs p a.1)
    where
      at : (r : Ordering) → AllByRecursion P (insert_key R xs k)
          → AllByRecursion P (match_ordering r (k ∷ x ∷ xs) (x ∷ xs) (x ∷ insert_key R xs k))
      at Less more = (p, a)
      at Equal more = a
      at Greater more = (a.0, more)

  all_above : (k x : K) (xs : List K) → R k x ≡ Less → AllByRecursion (λ y. R x y ≡ Less) xs → AllByRecursion (λ y. R k y ≡ Less) xs
  all_above k x [] h a = a
  all_above k x (y ∷ ys) h a = (o.trans k x y h a.0, all_above k x ys h a.1)

  pub sorted_inserted : (xs : List K) (k : K) → IsStrictlySortedBy R xs → IsStrictlySortedBy R (insert_key R xs k)
  unfolding IsStrictlySortedBy
  sorted_inserted [] k h = (tt, tt)
  sorted_inserted (x ∷ xs) k h = at (R k x) refl (sorted_inserted xs k h.1)
    where
      at : (r : Ordering) → R k x ≡ r → IsStrictlySortedBy R (insert_key R xs k)
          → IsStrictlySortedBy R (match_ordering r (k ∷ x ∷ xs) (x ∷ xs) (x ∷ insert_key R xs k))
      at Less e more = ((e, all_above k x xs e h.0), h)
      at Equal e more = h
      at Greater e more = (all_inserted (λ y. R x y ≡ Less) k xs (o.antisymm x k ∙ ap ordering_reverse e) h.0, more)

  all_removed : (P : K → Type 0) (test : K → Bool) (xs : List K) → AllByRecursion P xs → AllByRecursion P (remove_key test xs)
  all_removed P test [] a = a
  all_removed P test (x ∷ xs) a = at (test x) (all_removed P test xs a.1)
    where
      at : (b : Bool) → AllByRecursion P (remove_key test xs) → AllByRecursion P (cond b xs (x ∷ remove_key test xs))
      at true more = a.1
      at false more = (a.0, more)

  pub sorted_removed : (xs : List K) (test : K → Bool) → IsStrictlySortedBy R xs → IsStrictlySortedBy R (remove_key test xs)
  unfolding IsStrictlySortedBy
  sorted_removed [] test h = h
  sorted_removed (x ∷ xs) test h = at (test x) (sorted_removed xs test h.1)
    where
      at : (b : Bool) → IsStrictlySortedBy R (remove_key test xs) → IsStrictlySortedBy R (cond b xs (x ∷ remove_key test xs))
      at true more = h.1
      at false more = (all_removed (λ y. R x y ≡ Less) test xs h.0, more)

  -- ---- keys of a list
  abbrev has : List K → K → Bool
  has xs q = list_any (eq_by_cmp R q) xs

  same : IsEquivalence (eq_by_cmp R)
  same = eq_by_cmp_equiv o

  is_in : (xs : List K) (q : K) → has xs q ≡ true → Contains xs q
  is_in xs q h = Contains-from_any (tells_apart exact) q xs h

  has_it : (xs : List K) (q : K) → Contains xs q → has xs q ≡ true
  has_it xs q h = list_any-from_Contains same q xs h

  or_turned : (a b : Bool) → (a || b) ≡ (b || a)
  or_turned true true = refl
  or_turned true false = refl
  or_turned false true = refl
  or_turned false false = refl

  or_again : (a b c : Bool) → (a || (b || c)) ≡ ((a || b) || c)
  or_again true b c = refl
  or_again false b c = refl

  or_known : (a b c : Bool) → b ≡ a → (a || c) ≡ ((a || c) || b)
  or_known true true c e = refl
  or_known true false c e = refl
  or_known false true c e = absurd (true≢false e)
  or_known false false true e = refl
  or_known false false false e = refl

  has-inserted : (xs : List K) (k q : K) → has (insert_key R xs k) q ≡ (has xs q || eq_by_cmp R q k)
  has-inserted [] k q = or_turned (eq_by_cmp R q k) false
  has-inserted (x ∷ xs) k q = at (R k x) refl (has-inserted xs k q)
    where
      at : (r : Ordering) → R k x ≡ r → has (insert_key R xs k) q ≡ (has xs q || eq_by_cmp R q k)
          → has (match_ordering r (k ∷ x ∷ xs) (x ∷ xs) (x ∷ insert_key R xs k)) q ≡ ((eq_by_cmp R q x || has xs q) || eq_by_cmp R q k)
      at Less e more = or_turned (eq_by_cmp R q k) (eq_by_cmp R q x || has xs q)
      at Equal e more = or_known (eq_by_cmp R q x) (eq_by_cmp R q k) (has xs q) (ap (λ y. eq_by_cmp R q y) (exact k x e))
      at Greater e more = ap (λ b. eq_by_cmp R q x || b) more ∙ or_again (eq_by_cmp R q x) (has xs q) (eq_by_cmp R q k)

  or_cases : (a b : Bool) → (a || b) ≡ true → (a ≡ true) ⊎ (b ≡ true)
  or_cases true b h = inl refl
  or_cases false b h = inr h

  or_left : (a b : Bool) → a ≡ true → (a || b) ≡ true
  or_left true b h = refl
  or_left false b h = absurd (true≢false (sym h))

  or_right : (a b : Bool) → b ≡ true → (a || b) ≡ true
  or_right true b h = refl
  or_right false b h = h

  -- a list has the inserted key and the keys that it had
  pub inserted_has : (xs : List K) (k q : K) → Contains (insert_key R xs k) q ↔ (Contains xs q ⊎ (q ≡ k))
  inserted_has xs k q = (there, back)
    where
      split : (has xs q ≡ true) ⊎ (eq_by_cmp R q k ≡ true) → Contains xs q ⊎ (q ≡ k)
      split (inl a) = inl (is_in xs q a)
      split (inr b) = inr (tells_apart exact q k b)

      there : Contains (insert_key R xs k) q → Contains xs q ⊎ (q ≡ k)
      there h = split (or_cases _ _ (sym (has-inserted xs k q) ∙ has_it _ q h))

      back : Contains xs q ⊎ (q ≡ k) → Contains (insert_key R xs k) q
      back (inl a) = is_in _ q (has-inserted xs k q ∙ or_left _ _ (has_it xs q a))
      back (inr b) = is_in _ q (has-inserted xs k q ∙ or_right (has xs q) _ (subst (λ y. eq_by_cmp R q y ≡ true) b (same.refl q)))

  apart : (k : K) (xs : List K) → AllByRecursion (λ y. R k y ≡ Less) xs → has xs k ≡ false
  apart k [] a = refl
  apart k (y ∷ ys) a = ap (λ r. is_eq r || has ys k) a.0 ∙ apart k ys a.1

  and_none : (a : Bool) → a ≡ (true && a)
  and_none a = refl

  -- no other key compares equal to the first such key
  has-removed : (xs : List K) (k q : K) → IsStrictlySortedBy R xs → has (remove_key (is_at (R k)) xs) q
      ≡ (not (eq_by_cmp R q k) && has xs q)
  unfolding IsStrictlySortedBy
  has-removed [] k q h = at (eq_by_cmp R q k)
    where
      at : (b : Bool) → false ≡ (not b && false)
      at true = refl
      at false = refl
  has-removed (x ∷ xs) k q h = at (R k x) refl (has-removed xs k q h.1)
    where
      gone : (b c : Bool) → (b ≡ true → c ≡ false) → c ≡ (not b && (b || c))
      gone true c f = f refl
      gone false c f = refl

      kept : (b c d : Bool) → (b ≡ true → d ≡ true → true ≡ false) → (b || (not d && c)) ≡ (not d && (b || c))
      kept true c true f = f refl refl
      kept true c false f = refl
      kept false c true f = refl
      kept false c false f = refl

      at : (r : Ordering) → R k x ≡ r → has (remove_key (is_at (R k)) xs) q ≡ (not (eq_by_cmp R q k) && has xs q)
          → has (cond (is_eq r) xs (x ∷ remove_key (is_at (R k)) xs)) q ≡ (not (eq_by_cmp R q k) && (eq_by_cmp R q x || has xs q))
      at Equal e more =
          subst (λ y. has xs q ≡ (not (eq_by_cmp R q y) && (eq_by_cmp R q x || has xs q))) (sym (exact k x e))
          (gone (eq_by_cmp R q x) (has xs q) (λ t. subst (λ y. has xs y ≡ false) (sym (tells_apart exact q x t)) (apart x xs h.0)))
      at Less e more = ap (λ b. eq_by_cmp R q x || b) more ∙ kept (eq_by_cmp R q x) (has xs q) (eq_by_cmp R q k)
          (λ a b. sym (subst (λ y. is_eq (R y x) ≡ true) (tells_apart exact q k b) a) ∙ ap is_eq e)
      at Greater e more = ap (λ b. eq_by_cmp R q x || b) more ∙ kept (eq_by_cmp R q x) (has xs q) (eq_by_cmp R q k)
          (λ a b. sym (subst (λ y. is_eq (R y x) ≡ true) (tells_apart exact q k b) a) ∙ ap is_eq e)

  and_cases : (a b : Bool) → (not a && b) ≡ true → (a ≡ false) × (b ≡ true)
  and_cases true b h = absurd (true≢false (sym h))
  and_cases false b h = (refl, h)

  and_both : (a b : Bool) → a ≡ false → b ≡ true → (not a && b) ≡ true
  and_both true b h g = absurd (true≢false h)
  and_both false b h g = g

  not_true : (a : Bool) → (a ≡ true → ⊥) → a ≡ false
  not_true true f = absurd (f refl)
  not_true false f = refl

  -- a list without a removed key has the other keys that it had
  pub removed_has : (xs : List K) (k q : K) → IsStrictlySortedBy R xs → Contains (remove_key (is_at (R k)) xs) q ↔ (Contains xs q × (q ≢ k))
  removed_has xs k q h = (there, back)
    where
      there : Contains (remove_key (is_at (R k)) xs) q → Contains xs q × (q ≢ k)
      there c =
          let both = and_cases (eq_by_cmp R q k) (has xs q) (sym (has-removed xs k q h) ∙ has_it _ q c) in
          (is_in xs q both.1, λ e. true≢false (sym (subst (λ y. eq_by_cmp R q y ≡ true) e (same.refl q)) ∙ both.0))

      back : Contains xs q × (q ≢ k) → Contains (remove_key (is_at (R k)) xs) q
      back p = is_in _ q (has-removed xs k q h ∙ and_both _ _ (not_true _ (λ e. p.1 (tells_apart exact q k e))) (has_it xs q p.0))

module _ {K : Type 0} where
  -- ---- members of a list
  pub no_member : (q : K) → Contains [] q → ⊥
  no_member q h = omega (arith, h.1)

  pub first_member : (x : K) (xs : List K) (q : K) → q ≡ x → Contains (x ∷ xs) q
  first_member x xs q e = (0, omega arith, sym e)

  pub later_member : (x : K) (xs : List K) (q : K) → Contains xs q → Contains (x ∷ xs) q
  later_member x xs q h = (suc h.0, omega (arith, h.1), h.2)

  pub member_cases : (x : K) (xs : List K) (q : K) → Contains (x ∷ xs) q → (q ≡ x) ⊎ Contains xs q
  member_cases x xs q h = at h.0 h.1 h.2
    where
      at : (k : ℕ) → k < length (x ∷ xs) → slice_index_or (x ∷ xs) k q ≡ q → (q ≡ x) ⊎ Contains xs q
      at zero l e = inl (sym e)
      at (suc k) l e = inr (k, omega (arith, l), e)

-- ---- ids
pub sorted_ids : (keys ids : List ObjectId) → IsStrictlySortedBy id_cmp keys → IsStrictlySortedBy id_cmp (with_ids keys ids)
sorted_ids keys [] h = h
sorted_ids keys (id ∷ ids) h = sorted_ids (insert_key id_cmp keys id) ids (sorted_inserted ids_total ids_exact keys id h)

with_one : (keys : List ObjectId) (id : ObjectId) (ids : List ObjectId) (q : ObjectId)
    → Contains (with_ids (insert_key id_cmp keys id) ids) q ↔ (Contains (insert_key id_cmp keys id) q ⊎ Contains ids q)
    → Contains (with_ids keys (id ∷ ids)) q ↔ (Contains keys q ⊎ Contains (id ∷ ids) q)
with_one keys id ids q more = (λ h. there_by (more.0 h), back)
  where
    put : Contains (insert_key id_cmp keys id) q ↔ (Contains keys q ⊎ (q ≡ id))
    put = inserted_has ids_total ids_exact keys id q

    front : Contains keys q ⊎ (q ≡ id) → Contains keys q ⊎ Contains (id ∷ ids) q
    front (inl a) = inl a
    front (inr b) = inr (first_member id ids q b)

    there_by : Contains (insert_key id_cmp keys id) q ⊎ Contains ids q → Contains keys q ⊎ Contains (id ∷ ids) q
    there_by (inl a) = front (put.0 a)
    there_by (inr b) = inr (later_member id ids q b)

    back_by : (q ≡ id) ⊎ Contains ids q → Contains (with_ids (insert_key id_cmp keys id) ids) q
    back_by (inl a) = more.1 (inl (put.1 (inr a)))
    back_by (inr b) = more.1 (inr b)

    back : Contains keys q ⊎ Contains (id ∷ ids) q → Contains (with_ids (insert_key id_cmp keys id) ids) q
    back (inl a) = more.1 (inl (put.1 (inl a)))
    back (inr b) = back_by (member_cases id ids q b)

with_ids_has : (keys ids : List ObjectId) (q : ObjectId) → Contains (with_ids keys ids) q ↔ (Contains keys q ⊎ Contains ids q)
with_ids_has keys [] q = (inl, none)
  where
    none : Contains keys q ⊎ Contains [] q → Contains keys q
    none (inl a) = a
    none (inr b) = absurd (no_member q b)
with_ids_has keys (id ∷ ids) q = with_one keys id ids q (with_ids_has (insert_key id_cmp keys id) ids q)

-- the ids of a list, sorted, each once
pub set_of : (ids : List ObjectId) → IsSetOf ids (with_ids [] ids)
unfolding IsStrictlySortedBy
set_of ids = record {
  ordered = sorted_ids [] ids tt;
  same = λ id. let h = with_ids_has [] ids id in (λ a. only (h.0 a), λ b. h.1 (inr b));
}
  where
    only : {id : ObjectId} → Contains [] id ⊎ Contains ids id → Contains ids id
    only (inl a) = absurd (no_member _ a)
    only (inr b) = b

-- ---- updates
pub stays_by : (id : ObjectId) (P Q : Type 0) → (P → Q) → (us : List ShallowUpdate) → StaysIn id P us → StaysIn id Q us
stays_by id P Q f [] h = f h
stays_by id P Q f (becomes_shallow other ∷ us) h = stays_by id (P ⊎ (id ≡ other)) (Q ⊎ (id ≡ other)) one us h
  where
    one : P ⊎ (id ≡ other) → Q ⊎ (id ≡ other)
    one (inl a) = inl (f a)
    one (inr b) = inr b
stays_by id P Q f (becomes_whole other ∷ us) h = stays_by id (P × (id ≢ other)) (Q × (id ≢ other)) (λ p. (f p.0, p.1)) us h

sorted_updates : (keys : List ObjectId) (us : List ShallowUpdate) → IsStrictlySortedBy id_cmp keys
    → IsStrictlySortedBy id_cmp (with_updates keys us)
sorted_updates keys [] h = h
sorted_updates keys (becomes_shallow id ∷ us) h =
    sorted_updates (insert_key id_cmp keys id) us (sorted_inserted ids_total ids_exact keys id h)
sorted_updates keys (becomes_whole id ∷ us) h =
    sorted_updates (remove_key (is_at (id_cmp id)) keys) us (sorted_removed ids_total ids_exact keys (is_at (id_cmp id)) h)

updates_has : (keys : List ObjectId) (us : List ShallowUpdate) → IsStrictlySortedBy id_cmp keys → (q : ObjectId)
    → Contains (with_updates keys us) q ↔ StaysIn q (Contains keys q) us
updates_has keys [] h q = (λ a. a, λ a. a)
updates_has keys (becomes_shallow id ∷ us) h q =
    let more = updates_has (insert_key id_cmp keys id) us (sorted_inserted ids_total ids_exact keys id h) q in
    let put = inserted_has ids_total ids_exact keys id q in (
      λ a. stays_by q (Contains (insert_key id_cmp keys id) q) (Contains keys q ⊎ (q ≡ id)) put.0 us (more.0 a),
      λ a.
          more.1 (stays_by q (Contains keys q ⊎ (q ≡ id)) (Contains (insert_key id_cmp keys id) q) put.1 us a),
    )
updates_has keys (becomes_whole id ∷ us) h q =
    let gone : List ObjectId = remove_key (is_at (id_cmp id)) keys in
    let more = updates_has gone us (sorted_removed ids_total ids_exact keys (is_at (id_cmp id)) h) q in
    let cut = removed_has ids_total ids_exact keys id q h in (
      λ a. stays_by q (Contains gone q) (Contains keys q × (q ≢ id)) cut.0 us (more.0 a),
      λ a.
          more.1 (stays_by q (Contains keys q × (q ≢ id)) (Contains gone q) cut.1 us a),
    )

-- the boundary after the updates is the set of the definition
pub boundary_is : (ids : List ObjectId) (us : List ShallowUpdate) → IsBoundary ids us (boundary ids us)
boundary_is ids us =
    let first = set_of ids in
    record {
      ordered = sorted_updates (with_ids [] ids) us first.ordered;
      same = λ id.
          let more = updates_has (with_ids [] ids) us first.ordered id in (
            λ a. stays_by id (Contains (with_ids [] ids) id) (Contains ids id) (first.same id).0 us (more.0 a),
            λ a.
                more.1 (stays_by id (Contains ids id) (Contains (with_ids [] ids) id) (first.same id).1 us a),
          );
    }
