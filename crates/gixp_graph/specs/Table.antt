-- Commits with numbers, as plain data.
use Rattle.std.specs.Prelude.{◌≡◌, ℕ, ◌<◌, List, [], length, map, slice_index_or, All, refl}
use Rattle.std.specs.FinMap as finite
use Rattle.std.specs.Coded.{Coded, code_by, coded×, coded_list}
use Rattle.gixp_hash.specs.declared.object_id.ObjectId.{ObjectId}
use Rattle.gixp_hash.specs.ObjectId.{coded_id}
use Rattle.gixp_graph.specs.GraphData.{Commits, coded_held}

-- a table of commits: those held, and the ids that have numbers, by number
pub record Table : Type 0 where
  pub held : Commits
  pub ids : List ObjectId

abbrev pub coded_table : Coded Table
coded_table = code_by (Commits × List ObjectId) (coded× (finite.code coded_id coded_held) (coded_list coded_id)) (λ t. (t.held, t.ids))
    (λ p. record { held = p.0; ids = p.1 }) (λ _. refl)

abbrev pub id_at : List ObjectId → ℕ → ObjectId
id_at ids n = slice_index_or ids n (record { bytes = [] })

abbrev pub ids_at : List ObjectId → List ℕ → List ObjectId
ids_at ids numbers = map (id_at ids) numbers

-- each of these numbers names an id
abbrev pub AllNamed : List ObjectId → List ℕ → Type 0
AllNamed ids numbers = All (λ n. n < length ids) numbers

-- each number that named an id still names it
abbrev pub KeepsNumbers : List ObjectId → List ObjectId → Type 0
KeepsNumbers old new = (n : ℕ) → n < length old → (n < length new) × (id_at new n ≡ id_at old n)
