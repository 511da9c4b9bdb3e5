-- Mappings grouped by the hashes of their local names.
use Rattle.std.specs.Prelude.{ℕ, ◌≡◌, ◌==◌, ◌<◌, ⊤, Bool, false, nat_lt, if◌then◌else◌, List, [], ◌∷◌, filter, length, map, option_to_list}
use Rattle.std.specs.Borrow.{Bor}
use Rattle.std.specs.List.{All, IsDistinct, list_any, flat_map}
use Rattle.std.specs.Option.{option_map}
use Rattle.gixp_matching.specs.declared.match_group.validate.groups.Group.{Group}
use Rattle.gixp_matching.specs.declared.match_group.validate.groups.Named.{Named}
use Rattle.gixp_matching.specs.Digest.{digest}
use Rattle.gixp_matching.specs.Mappings.{Mapped}
use Rattle.gixp_matching.specs.Validation.{of_local}

-- a mapping with the hash of its local name, where it has one
abbrev pub numbered : Mapped → List (ℕ × Mapped)
numbered m = option_to_list (option_map (λ name. (digest name, m)) m.local)

module _ {M : Type 0} (f : M → Mapped) where
  -- the hash and the mapping of a row
  abbrev pub shown : Named M → ℕ × Mapped
  shown row = (row.number, f row.mapping.now)

  -- borrowed mappings
  abbrev pub lent : List (Bor M) → List Mapped
  lent ms = map (λ m. f m.now) ms

  -- the mappings of rows
  abbrev pub following : List (Named M) → List Mapped
  following rows = map (λ row. f row.mapping.now) rows

module _ {M : Type 0} where
  -- the row has this hash
  abbrev pub has_number : ℕ → Named M → Bool
  has_number n row = row.number == n

  -- the leading rows with this hash
  abbrev pub run_of : ℕ → List (Named M) → List (Named M)
  run_of n [] = []
  run_of n (row ∷ rows) = if has_number n row then row ∷ run_of n rows else []

  -- the rows after the leading ones with this hash
  abbrev pub after_run : ℕ → List (Named M) → List (Named M)
  after_run n [] = []
  after_run n (row ∷ rows) = if has_number n row then after_run n rows else row ∷ rows

  -- the rows with the same hash follow one another
  abbrev pub AreTogether : List (Named M) → Type 0
  AreTogether [] = ⊤
  AreTogether (row ∷ rows) = (list_any (has_number row.number) (after_run row.number rows) ≡ false) × AreTogether rows

  -- the group, if it has several rows
  abbrev pub several : Group M → List (Group M)
  several group = if nat_lt 1 (length group.rows.now) then group ∷ [] else []

  -- the group has this hash
  abbrev pub is_group_of : ℕ → Group M → Bool
  is_group_of n group = group.number == n

  -- the rows of the group are all rows with its hash
  abbrev pub HasAll : List (Named M) → Group M → Type 0
  HasAll rows group = group.rows.now ≡ filter (has_number group.number) rows

  -- the mappings of rows
  abbrev pub mappings_of : List (Named M) → List (Bor M)
  mappings_of rows = map (λ row. row.mapping) rows

  abbrev pub grouped : List (Group M) → List (Bor M)
  grouped groups = flat_map (λ group. mappings_of group.rows.now) groups

  -- two groups have the same hash
  abbrev pub have_one_number : Group M → Group M → Bool
  have_one_number a b = a.number == b.number

-- the rows with the hash of a local name contain all mappings with that name, and rows with other hashes none; rows
-- with the same hash follow one another
pub record ListsNumbered {M : Type 0} (f : M → Mapped) (ms : List Mapped) (rows : List (Named M)) : Type 0 where
  pub together : AreTogether rows
  pub same : (name : List ℕ) (n : ℕ) → of_local name (following f (filter (has_number n) rows))
      ≡ (if digest name == n then of_local name ms else [])

-- each hash has at most one group, which has all its rows; a hash without a group has less than two rows
pub record AreGroups {M : Type 0} (rows : List (Named M)) (groups : List (Group M)) : Type 0 where
  pub each : All (HasAll rows) groups
  pub once : IsDistinct have_one_number groups
  pub others : (n : ℕ) → All (λ group. is_group_of n group ≡ false) groups → length (filter (has_number n) rows) < 2
