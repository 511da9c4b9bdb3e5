-- Which commits are marked and held, by the objects.
use Rattle.std.proofs.Common.{◌≡◌, ◌⊎◌, ◌∙◌, ⊎_elim, inl, inr, Option, Some, None, List, ℤ, refl, sym, ap, true, false}
use Rattle.std.specs.Prelude.{◌↔◌, IsTrue, IsSome, is_some}
use Rattle.std.specs.Option.{option_map_or}
use Rattle.std.specs.FinMap as finite
use Rattle.gixp_hash.specs.declared.object_id.ObjectId.{ObjectId}
use Rattle.gixp_graph.specs.Object.{commit_at}
use Rattle.gixp_graph.specs.GraphData.{HeldCommit, Commits, GraphData, commit_in, is_complete, is_marked, OnlyMarks, IsFaithful}
use Rattle.gixp_graph.specs.Complete.{IsComplete}
use Rattle.gixp_graph.specs.GraphLaws.{faithful_reads}
use Rattle.gixp_graph.proofs.StepLemmas.{marked_by}
use Rattle.gixp_graph.proofs.FaithfulLemmas.{complete_same}

module _ (g : GraphData) (new : Commits) (ids : List ObjectId) (cutoff : Option ℤ) (sound : (id : ObjectId) → is_marked new id ≡ true
    → (is_marked g.held id ≡ true) ⊎ IsComplete (commit_in g) ids cutoff id) (faithful : IsFaithful g) where
  -- each newly marked commit is complete by the objects
  pub sound_exact : (id : ObjectId) → is_marked new id ≡ true → (is_marked g.held id ≡ true)
      ⊎ IsComplete (commit_at g.objects) ids cutoff id
  sound_exact id m = ⊎_elim (λ a. inl a) (λ a.
      inr (complete_same (commit_in g) (commit_at g.objects) (faithful_reads g faithful) ids cutoff id a)) (sound id m)

  -- the marked commits are the complete ones and those that were marked before
  pub complete_exact : OnlyMarks g new → ((id : ObjectId) → IsComplete (commit_in g) ids cutoff id → is_marked new id ≡ true)
      → (id : ObjectId) → IsTrue (is_marked new id) ↔ (IsTrue (is_marked g.held id) ⊎ IsComplete (commit_at g.objects) ids cutoff id)
  complete_exact only all id = (
    λ m. sound_exact id m,
    λ k. ⊎_elim
        (λ m. ⊎_elim (λ e. ap (λ o. option_map_or is_complete o false) e ∙ m) (λ n. marked_by g new only id n.0 n.2) (only id))
        (λ c. all id (complete_same (commit_at g.objects) (commit_in g) (λ q. sym (faithful_reads g faithful q)) ids cutoff id c)) k,
  )

-- a commit that is marked is held
marked_held : (o : Option HeldCommit) → option_map_or is_complete o false ≡ true → IsSome o
marked_held None e = cc
marked_held (Some h) e = refl

-- a held commit was held before, or is complete
pub held_exact : (g : GraphData) (new : Commits) (ids : List ObjectId) (cutoff : Option ℤ) → OnlyMarks g new
    → ((id : ObjectId) → is_marked new id ≡ true → (is_marked g.held id ≡ true) ⊎ IsComplete (commit_in g) ids cutoff id) → IsFaithful g
    → (id : ObjectId) → IsSome (finite.get new id) → IsSome (finite.get g.held id) ⊎ IsComplete (commit_at g.objects) ids cutoff id
held_exact g new ids cutoff only sound faithful id s = ⊎_elim
    (λ e. inl (ap is_some (sym e) ∙ s))
    (λ n. ⊎_elim (λ m. inl (marked_held (finite.get g.held id) m)) (λ k. inr k)
    (sound_exact g new ids cutoff sound faithful id (marked_by g new only id n.0 n.2)))
    (only id)

-- each complete commit is held
pub reads_exact : (g : GraphData) (new : Commits) (ids : List ObjectId) (cutoff : Option ℤ) → IsFaithful g
    → ((id : ObjectId) → IsComplete (commit_in g) ids cutoff id → is_marked new id ≡ true) → (id : ObjectId)
    → IsComplete (commit_at g.objects) ids cutoff id → IsSome (finite.get new id)
reads_exact g new ids cutoff faithful all id c = marked_held (finite.get new id)
    (all id (complete_same (commit_at g.objects) (commit_in g) (λ q. sym (faithful_reads g faithful q)) ids cutoff id c))
