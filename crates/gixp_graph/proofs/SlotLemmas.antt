-- Slots of tags.
use Rattle.std.proofs.Common.{◌≡◌, ℕ, ◌+◌, ◌-◌, ◌<◌, ◌≤◌, ◌∙◌, ◌==◌, ◌||◌, ◌⊎◌, ⊎_elim, zero, suc, ◌∷◌, [], cond, Bool, true, false, List, Option, Some, None, inl, inr, refl, sym, ap, arith, set, length}
use Rattle.std.specs.List.{slice_get}
use Rattle.std.proofs.lemmas.Bool.{eqb-true, eq-eqb}
use Rattle.std.proofs.lemmas.Option.{slice_get_past, slice_get_within}
use Rattle.std.specs.BTreeMap.{is_at}
use Rattle.std.specs.Ordering.{eq_by_cmp}
use Rattle.gixp_hash.specs.ObjectId.{id_cmp}
use Rattle.gixp_graph.specs.GraphLaws.{same_from}
use Rattle.gixp_graph.proofs.MarkLemmas.{true_or_false}
use Rattle.gixp_graph.proofs.NodeLemmas.{nat_cases}
use Rattle.gixp_hash.specs.declared.object_id.ObjectId.{ObjectId}
use Rattle.gixp_graph.specs.declared.numbers.Slot.{Slot}
use Rattle.gixp_graph.specs.Slots.{tag_of, slot_of, place_at, place_from, place_of, other_at, IsTaken, IsPlaced, IsReachedIn}

-- a window of at least one slot: its first slot fits, or the search goes on
pub place_step : (slots : List Slot) (tag i k : ℕ) → 0 < k
    → place_from slots tag i k ≡ place_at (slice_get slots i) tag i (place_from slots tag (i + 1) (k - 1))
unfolding place_from
place_step slots tag i zero l = absurd (omega arith)
place_step slots tag i (suc k) l =
    let e : k ≡ suc k - 1 = omega arith in ap (λ m. place_at (slice_get slots i) tag i (place_from slots tag (i + 1) m)) e

abbrev pub fits : Slot → ℕ → Bool
fits s tag = s.end == 0 || s.tag == tag

fits_true : (s : Slot) (tag : ℕ) → (s.end ≡ 0) ⊎ (s.tag ≡ tag) → fits s tag ≡ true
fits_true s tag h = ⊎_elim
    (λ e. ap (λ b. b || s.tag == tag) (eq-eqb s.end 0 e))
    (λ e. here (s.end == 0) (s.tag == tag) (eq-eqb s.tag tag e)) h
  where
    here : (a b : Bool) → b ≡ true → (a || b) ≡ true
    here true b e = refl
    here false b e = e

fits_false : (s : Slot) (tag : ℕ) → (s.end ≡ 0 → ⊥) → (s.tag ≡ tag → ⊥) → fits s tag ≡ false
fits_false s tag f g = here (s.end == 0) (s.tag == tag) (λ e. f (eqb-true s.end 0 e)) (λ e. g (eqb-true s.tag tag e))
  where
    here : (a b : Bool) → (a ≡ true → ⊥) → (b ≡ true → ⊥) → (a || b) ≡ false
    here true b f g = absurd (f refl)
    here false true f g = absurd (g refl)
    here false false f g = refl

module _ (slots : List Slot) (tag i k : ℕ) (l : 0 < k) where
  -- no slot is found past the last one
  pub place_past : length slots ≤ i → place_from slots tag i k ≡ None
  place_past e = place_step slots tag i k l
      ∙ ap (λ o. place_at o tag i (place_from slots tag (i + 1) (k - 1))) (slice_get_past slots i e)

  -- this slot fits
  pub place_here : (s : Slot) → slice_get slots i ≡ Some s → (s.end ≡ 0) ⊎ (s.tag ≡ tag) → place_from slots tag i k ≡ Some i
  place_here s e t = place_step slots tag i k l
      ∙ ap (λ o. place_at o tag i (place_from slots tag (i + 1) (k - 1))) e
      ∙ ap (λ b. cond b (Some i) (place_from slots tag (i + 1) (k - 1))) (fits_true s tag t)

  -- this slot doesn't fit
  pub place_next : (s : Slot) → slice_get slots i ≡ Some s → (s.end ≡ 0 → ⊥) → (s.tag ≡ tag → ⊥)
      → place_from slots tag i k ≡ place_from slots tag (i + 1) (k - 1)
  place_next s e f g = place_step slots tag i k l
      ∙ ap (λ o. place_at o tag i (place_from slots tag (i + 1) (k - 1))) e
      ∙ ap (λ b. cond b (Some i) (place_from slots tag (i + 1) (k - 1))) (fits_false s tag f g)

-- no slot is found in none
pub place_none : (slots : List Slot) (tag i k : ℕ) → k ≡ 0 → place_from slots tag i k ≡ None
unfolding place_from
place_none slots tag i zero e = refl
place_none slots tag i (suc k) e = absurd (omega arith)

-- ---- slots that are found

-- a slot that is found is one of the slots
pub place_within : (slots : List Slot) (tag i k p : ℕ) → place_from slots tag i k ≡ Some p → p < length slots
unfolding place_from
place_within slots tag i zero p e = (let c : ◌≡◌ {A = Option ℕ} None (Some p) = e in absurd (cc))
place_within slots tag i (suc k) p e = here (slice_get slots i) refl (place_within slots tag (i + 1) k p) e
  where
    there : (b : Bool) → i < length slots → (place_from slots tag (i + 1) k ≡ Some p → p < length slots)
        → cond b (Some i) (place_from slots tag (i + 1) k) ≡ Some p → p < length slots
    there true l rest e = (let same : i ≡ p = cc in omega arith)
    there false l rest e = rest e

    here : (o : Option Slot) → slice_get slots i ≡ o → (place_from slots tag (i + 1) k ≡ Some p → p < length slots)
        → place_at o tag i (place_from slots tag (i + 1) k) ≡ Some p → p < length slots
    here None at rest e = (let c : ◌≡◌ {A = Option ℕ} None (Some p) = e in absurd (cc))
    here (Some s) at rest e = there (fits s tag) (slice_get_within slots i s at) rest e

-- the same slots and tag find the same slot
pub place_of_parts : (slots' slots : List Slot) (mask tag' tag : ℕ) → slots' ≡ slots → tag' ≡ tag → (o : Option ℕ) (p : ℕ)
    → o ≡ place_of slots' mask tag' → o ≡ Some p → place_of slots mask tag ≡ Some p
place_of_parts slots' slots mask tag' tag a b o p e is =
    ap (λ ss. place_of ss mask tag) (sym a) ∙ ap (place_of slots' mask) (sym b) ∙ sym e ∙ is

-- ---- the result of a look-up

module _ (slots : List Slot) (mask : ℕ) (others : List (ObjectId × ℕ)) (id : ObjectId) (n : ℕ)
    (h : IsReachedIn slots mask others id n) where
  -- the slot of an id that has a number isn't free
  pub never_free : (p : ℕ) (s : Slot) → place_of slots mask (tag_of id) ≡ Some p → slice_get slots p ≡ Some s → s.end ≡ 0 → ⊥
  never_free p s e at free = ⊎_elim
      (λ (z : IsPlaced slots mask id n).
      let same : Some z.0 ≡ Some p = sym z.1 ∙ e in
      let index : z.0 ≡ p = cc in
      let own : Some (slot_of id n) ≡ Some s = sym z.2 ∙ ap (slice_get slots) index ∙ at in
      let end : n + 1 ≡ s.end = cc in omega (arith, free))
      (λ (z : IsTaken slots mask (tag_of id) × (other_at others id ≡ Some n)). let l : 0 < s.end = z.0 p s e at in omega (arith, free)) h

  -- where the slot has another number, the ordered map has the id's
  pub other_found : (p : ℕ) (s : Slot) → place_of slots mask (tag_of id) ≡ Some p → slice_get slots p ≡ Some s → (s.end ≡ n + 1 → ⊥)
      → other_at others id ≡ Some n
  other_found p s e at never = ⊎_elim
      (λ (z : IsPlaced slots mask id n).
      let same : Some z.0 ≡ Some p = sym z.1 ∙ e in
      let index : z.0 ≡ p = cc in
      let own : Some (slot_of id n) ≡ Some s = sym z.2 ∙ ap (slice_get slots) index ∙ at in
      absurd (never (let end : s.end ≡ n + 1 = cc in end)))
      (λ (z : IsTaken slots mask (tag_of id) × (other_at others id ≡ Some n)). z.1) h

-- an insert into the ordered map changes no other id's number
pub reached_other : (slots : List Slot) (mask : ℕ) (others others' : List (ObjectId × ℕ)) (q : ObjectId) (n : ℕ)
    → other_at others' q ≡ other_at others q → IsReachedIn slots mask others q n → IsReachedIn slots mask others' q n
reached_other slots mask others others' q n e h = ⊎_elim
    (λ (z : IsPlaced slots mask q n). inl z)
    (λ (z : IsTaken slots mask (tag_of q) × (other_at others q ≡ Some n)). inr (z.0, e ∙ z.1)) h

-- ids that differ differ in the map
pub apart_at : (id q : ObjectId) → (q ≡ id → ⊥) → is_at (id_cmp id) q ≡ false
apart_at id q a = ⊎_elim (λ t. absurd (a (sym (same_from id q t)))) (λ f. f) (true_or_false (eq_by_cmp id_cmp id q))

-- ---- a slot is written

pub written_here : (slots : List Slot) (p : ℕ) (x : Slot) → p < length slots → slice_get (set slots p x) p ≡ Some x
written_here [] p x l = absurd (omega arith)
written_here (y ∷ ys) zero x l = refl
written_here (y ∷ ys) (suc p) x l = written_here ys p x (omega arith)

pub written_other : (slots : List Slot) (p i : ℕ) (x : Slot) → (i ≡ p → ⊥) → slice_get (set slots p x) i ≡ slice_get slots i
written_other [] p i x a = refl
written_other (y ∷ ys) zero zero x a = absurd (a refl)
written_other (y ∷ ys) zero (suc i) x a = refl
written_other (y ∷ ys) (suc p) zero x a = refl
written_other (y ∷ ys) (suc p) (suc i) x a = written_other ys p i x (λ e. a (ap suc e))

module _ (slots : List Slot) (p : ℕ) (x s : Slot) (at : slice_get slots p ≡ Some s) (free : s.end ≡ 0) where
  -- a tag whose slot isn't the one written keeps its slot
  pub place_other : (tag i k : ℕ) → (place_from slots tag i k ≡ Some p → ⊥)
      → place_from (set slots p x) tag i k ≡ place_from slots tag i k
  unfolding place_from
  place_other tag i zero never = refl
  place_other tag i (suc k) never = ⊎_elim
      (λ e. absurd (never (place_here slots tag i (suc k) (omega arith) s (ap (slice_get slots) e ∙ at) (inl free) ∙ ap Some e)))
      (λ a. ap (λ o. place_at o tag i (place_from (set slots p x) tag (i + 1) k)) (written_other slots p i x a)
      ∙ here (slice_get slots i) (place_other tag (i + 1) k) never)
      (nat_cases i p)
    where
      there : (b : Bool) → ((place_from slots tag (i + 1) k ≡ Some p → ⊥)
          → place_from (set slots p x) tag (i + 1) k ≡ place_from slots tag (i + 1) k)
          → (cond b (Some i) (place_from slots tag (i + 1) k) ≡ Some p → ⊥)
          → cond b (Some i) (place_from (set slots p x) tag (i + 1) k) ≡ cond b (Some i) (place_from slots tag (i + 1) k)
      there true rest n = refl
      there false rest n = rest n

      here : (o : Option Slot) → ((place_from slots tag (i + 1) k ≡ Some p → ⊥)
          → place_from (set slots p x) tag (i + 1) k ≡ place_from slots tag (i + 1) k)
          → (place_at o tag i (place_from slots tag (i + 1) k) ≡ Some p → ⊥)
          → place_at o tag i (place_from (set slots p x) tag (i + 1) k) ≡ place_at o tag i (place_from slots tag (i + 1) k)
      here None rest n = refl
      here (Some t) rest n = there (fits t tag) rest n

  -- a tag whose slot is the one written keeps its slot
  pub place_own : (tag i k : ℕ) → x.tag ≡ tag → place_from slots tag i k ≡ Some p → place_from (set slots p x) tag i k ≡ Some p
  unfolding place_from
  place_own tag i zero t e = (let c : ◌≡◌ {A = Option ℕ} None (Some p) = e in absurd (cc))
  place_own tag i (suc k) t e = ⊎_elim
      (λ same. place_here (set slots p x) tag i (suc k) (omega arith) x
      (ap (slice_get (set slots p x)) same ∙ written_here slots p x (slice_get_within slots p s at)) (inr t) ∙ ap Some same)
      (λ a. ap (λ o. place_at o tag i (place_from (set slots p x) tag (i + 1) k)) (written_other slots p i x a)
      ∙ here (slice_get slots i) (place_own tag (i + 1) k t) a e)
      (nat_cases i p)
    where
      there : (b : Bool) → (place_from slots tag (i + 1) k ≡ Some p → place_from (set slots p x) tag (i + 1) k ≡ Some p)
          → (i ≡ p → ⊥) → cond b (Some i) (place_from slots tag (i + 1) k) ≡ Some p
          → cond b (Some i) (place_from (set slots p x) tag (i + 1) k) ≡ Some p
      there true rest a h = absurd (a (let same : Some i ≡ Some p = h in cc))
      there false rest a h = rest h

      here : (o : Option Slot) → (place_from slots tag (i + 1) k ≡ Some p → place_from (set slots p x) tag (i + 1) k ≡ Some p)
          → (i ≡ p → ⊥) → place_at o tag i (place_from slots tag (i + 1) k) ≡ Some p
          → place_at o tag i (place_from (set slots p x) tag (i + 1) k) ≡ Some p
      here None rest a h = (let c : ◌≡◌ {A = Option ℕ} None (Some p) = h in absurd (cc))
      here (Some u) rest a h = there (fits u tag) rest a h

  -- each number that was found is still found
  pub reached_written : (mask : ℕ) (others : List (ObjectId × ℕ)) (q : ObjectId) (n : ℕ) → IsReachedIn slots mask others q n
      → IsReachedIn (set slots p x) mask others q n
  reached_written mask others q n h = ⊎_elim
      (λ (z : IsPlaced slots mask q n).
      let apart : z.0 ≡ p → ⊥ = (λ e.
      let same : Some (slot_of q n) ≡ Some s = sym z.2 ∙ ap (slice_get slots) e ∙ at in
      let end : n + 1 ≡ s.end = cc in omega (arith, free)) in
      inl (
        z.0,
        place_other (tag_of q) _ 16 (λ e. apart (let both : Some z.0 ≡ Some p = sym z.1 ∙ e in cc)) ∙ z.1,
        written_other slots p z.0 x apart ∙ z.2,
      ))
      (λ (z : IsTaken slots mask (tag_of q) × (other_at others q ≡ Some n)).
      let never : place_of slots mask (tag_of q) ≡ Some p → ⊥ = (λ e. let l : 0 < s.end = z.0 p s e at in omega (arith, free)) in
      let kept : place_of (set slots p x) mask (tag_of q) ≡ place_of slots mask (tag_of q) = place_other (tag_of q) _ 16 never in
      inr (
        (λ i t e is. z.0 i t (sym kept ∙ e) (sym (written_other slots p i x (λ same. never (sym kept ∙ e ∙ ap Some same))) ∙ is)),
        z.1,
      )) h

  -- a number that is written into its slot is found
  pub placed_written : (mask : ℕ) (id : ObjectId) (n : ℕ) → place_of slots mask (tag_of id) ≡ Some p → x ≡ slot_of id n
      → IsPlaced (set slots p x) mask id n
  placed_written mask id n e is = (
    p,
    place_own (tag_of id) _ 16 (ap (λ (y : Slot). y.tag) is) e,
    written_here slots p x (slice_get_within slots p s at) ∙ ap Some is,
  )

  -- any slot with its tag takes a tag's slot
  pub taken_written : (mask tag : ℕ) → place_of slots mask tag ≡ Some p → x.tag ≡ tag → 0 < x.end → IsTaken (set slots p x) mask tag
  taken_written mask tag e t l i y here is =
      let same : Some i ≡ Some p = sym here ∙ place_own tag _ 16 t e in
      let index : i ≡ p = cc in
      let own : Some y ≡ Some x = sym is ∙ ap (slice_get (set slots p x)) index ∙ written_here slots p x (slice_get_within slots p s at) in
      let one : y ≡ x = cc in rw one l
