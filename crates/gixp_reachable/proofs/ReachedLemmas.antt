-- Objects without those that are hidden, and which are hidden.
use Rattle.std.proofs.Common.{◌≡◌, ◌∙◌, ◌↔◌, ◌⊎◌, inr, ⊎_elim, Bool, true, false, cond, List, [], Option, None, refl, sym, ap, subst, ℤ, true≢false}
use Rattle.std.specs.Prelude.{◌&&◌, not, IsTrue}
use Rattle.std.specs.List.{list_any}
use Rattle.std.specs.BTreeMap.{is_at}
use Rattle.std.specs.BTreeSet.{BTreeSet, contains}
use Rattle.std.specs.FinMap as finite
use Rattle.std.specs.FinMap.{get-retain_keys, get-empty}
use Rattle.std.specs.Option.{option_map_or}
use Rattle.gixp_hash.specs.declared.object_id.ObjectId.{ObjectId}
use Rattle.gixp_hash.specs.ObjectId.{id_cmp}
use Rattle.gixp_hash.specs.IdLaws.{ids_exact}
use Rattle.gixp_graph.specs.Object.{Object, Objects, commit_at}
use Rattle.gixp_graph.specs.Complete.{IsComplete}
use Rattle.gixp_graph.specs.GraphData.{Commits, HasNoMarks, is_complete, is_marked}
use Rattle.gixp_reachable.specs.Ids.{has_id}
use Rattle.gixp_reachable.specs.Reached.{without}

module _ (objects : Objects) (hidden : ObjectId → Bool) (id : ObjectId) where
  got : finite.get (without objects hidden) id ≡ cond (not (hidden id)) (finite.get objects id) None
  got = get-retain_keys objects (λ q. not (hidden q)) id (λ x t. ap (λ q. not (hidden q)) (sym (ids_exact id x t)))

  -- what is hidden isn't there
  pub hidden_gives : {A : Type 0} (f : Option Object → A) → hidden id ≡ true → f None ≡ f (finite.get (without objects hidden) id)
  hidden_gives f h = sym (ap f (got ∙ ap (λ b. cond (not b) (finite.get objects id) None) h))

  -- all else is
  pub shown_gives : {A : Type 0} (f : Option Object → A) → hidden id ≡ false
      → f (finite.get objects id) ≡ f (finite.get (without objects hidden) id)
  shown_gives f h = sym (ap f (got ∙ ap (λ b. cond (not b) (finite.get objects id) None) h))

-- a graph without commits has no marks
pub empty_unmarked : (held : Commits) → held ≡ finite.empty → HasNoMarks held
empty_unmarked held e id = ap (λ (m : Commits). is_marked m id) e ∙ ap (λ o. option_map_or is_complete o false) (get-empty id_cmp id)

-- what is in doubt is hidden, unless it is marked
pub hides : (has marked old : ObjectId → Bool) (doubted : List ObjectId) (P : ObjectId → Type 0)
    → ((q : ObjectId) → has q ≡ has_id doubted q) → ((q : ObjectId) → IsTrue (marked q) ↔ (IsTrue (old q) ⊎ P q))
    → ((q : ObjectId) → old q ≡ false)
    → (q : ObjectId) → IsTrue (has q && not (marked q)) ↔ (IsTrue (has_id doubted q) × (P q → ⊥))
hides has marked old doubted P h m o q = at (has q) (marked q) refl refl
  where
    at : (a b : Bool) → has q ≡ a → marked q ≡ b → IsTrue (a && not b) ↔ (IsTrue (has_id doubted q) × (P q → ⊥))
    at true true e f = (
      (λ t. absurd (true≢false (sym t))),
      (λ p. absurd (⊎_elim (λ i. true≢false (sym i ∙ o q)) p.1 ((m q).0 f))),
    )
    at true false e f = ((λ t. (sym (h q) ∙ e, λ p. true≢false (sym ((m q).1 (inr p)) ∙ f))), (λ p. refl))
    at false b e f = ((λ t. absurd (true≢false (sym t))), (λ p. absurd (true≢false (sym p.0 ∙ (sym (h q) ∙ e)))))

-- without an id in doubt nothing is hidden
pub hides_none : (set : BTreeSet ObjectId) (marked : ObjectId → Bool) (P : ObjectId → Type 0) → set.keys ≡ []
    → (q : ObjectId) → IsTrue (contains id_cmp set q && not (marked q)) ↔ (IsTrue (has_id [] q) × (P q → ⊥))
hides_none set marked P e q = (
  (λ t. absurd (true≢false (sym t ∙ ap (λ ks. list_any (is_at (id_cmp q)) ks && not (marked q)) e))),
  (λ p. absurd (true≢false (sym p.0))),
)

-- the marks over equal objects, down to an equal time
pub marked_by : (M O : Type 0) (tips : List ObjectId) (a b : Objects) (s t : Option ℤ) (q : ObjectId) → a ≡ b → s ≡ t
    → M ↔ (O ⊎ IsComplete (commit_at a) tips s q) → M ↔ (O ⊎ IsComplete (commit_at b) tips t q)
marked_by M O tips a b s t q e f h =
    subst (λ (x : Option ℤ). M ↔ (O ⊎ IsComplete (commit_at b) tips x q)) f
    (subst (λ (x : Objects). M ↔ (O ⊎ IsComplete (commit_at x) tips s q)) e h)
