-- Refs sorted by name, and prepared negative refspecs.
use Rattle.std.specs.Prelude.{ℕ, ◌≡◌, ◌==◌, ◌||◌, Bool, true, List, map, filter, is_some, option_to_list}
use Rattle.std.specs.BTreeSet.{BTreeSet, contains}
use Rattle.std.specs.Cmp.Lexicographic.{slice_cmp}
use Rattle.std.specs.List.{list_any, enumerate_from, slice_get}
use Rattle.std.specs.List.Sorted.{IsSortedByKey}
use Rattle.std.specs.Ordering.{nat_cmp}
use Rattle.std.specs.Option.{option_map}
use Rattle.std.specs.Str.{bytes_eq}
use Rattle.gixp_refspec.specs.declared.needle.Needle.{Needle}
use Rattle.gixp_matching.specs.declared.match_group.negatives.Prepared.{Prepared}
use Rattle.gixp_matching.specs.declared.match_group.pairs.Numbered.{Numbered}
use Rattle.gixp_matching.specs.declared.match_group.rows.Row.{Row}
use Rattle.gixp_matching.specs.Mappings.{is_excluded}
use Rattle.gixp_matching.specs.Sought.{sought_by, sought, is_among}
use Rattle.gixp_matching.specs.MatchGroup.{values}
use Rattle.gixp_refspec.specs.Needle.{IsNeedle, middle_with}
use Rattle.gixp_refspec.specs.RefSpec.{value_of}
use Rattle.gixp_refspec.specs.Spec.{Spec}

-- the index and the name of a ref
abbrev pub shown : Row → ℕ × List ℕ
shown row = (row.place, row.name.now)

-- the ref has this name
abbrev pub is_row_of : List ℕ → Row → Bool
is_row_of name row = bytes_eq row.name.now name

-- refs are sorted by the bytes of their names
abbrev pub AreByName : List Row → Type 0
AreByName rows = IsSortedByKey (λ row. row.name.now) (slice_cmp nat_cmp) rows

-- the refs with this name, with their indices
abbrev pub named : List (List ℕ) → List ℕ → List (ℕ × List ℕ)
named names name = filter (λ ref. bytes_eq ref.1 name) (enumerate_from 0 names)

-- the refs that a short name may mean, with their indices
abbrev pub meant : List (List ℕ) → List (List ℕ) → List (ℕ × List ℕ)
meant names texts = filter (λ ref. is_among texts ref.1) (enumerate_from 0 names)

-- a table of the refs with some names: sorted by name, and refs with the same name by index
pub record IsRowTable (texts : List (List ℕ)) (names : List (List ℕ)) (rows : List Row) : Type 0 where
  pub in_order : AreByName rows
  pub has_all : (name : List ℕ) → is_among texts name ≡ true → map shown (filter (is_row_of name) rows) ≡ named names name

-- each of these texts is looked up
abbrev pub AreSought : List (List ℕ) → List (List ℕ) → Type 0
AreSought all texts = (text : List ℕ) → is_among texts text ≡ true → is_among all text ≡ true

-- a refspec with its index
abbrev pub numbered_value : Numbered → ℕ × Spec
numbered_value n = (n.index, value_of n.spec.now)

-- the refspec's source is prepared as a needle
abbrev pub IsLookedAt : Numbered → Type 0
IsLookedAt n = IsNeedle n.spec.now.source.now n.needle

-- the full names that the refspec may mean are looked up
abbrev pub HasSoughtNames : List Spec → Numbered → Type 0
HasSoughtNames specs n = AreSought (sought specs) (sought_by (value_of n.spec.now))

-- a ref has this index
abbrev pub has_place : ℕ → List (ℕ × List ℕ) → Bool
has_place place refs = list_any (λ ref. ref.0 == place) refs

-- the indices of these refs were added
abbrev pub AddsPlaces : List (ℕ × List ℕ) → BTreeSet ℕ → BTreeSet ℕ → Type 0
AddsPlaces refs old new = (place : ℕ) → contains nat_cmp new place ≡ (contains nat_cmp old place || has_place place refs)

-- the set has the indices of the refs of a table whose names are among the texts, if these are looked up
abbrev pub HasPlaces : List (List ℕ) → List Row → BTreeSet ℕ → Type 0
HasPlaces texts rows places = (all names : List (List ℕ)) → IsRowTable all names rows → AreSought all texts → (place : ℕ)
    → contains nat_cmp places place ≡ has_place place (meant names texts)

-- these are the indices of the refs of a table whose names are among the texts, ascending, if these are looked up
abbrev pub ArePlaces : List (List ℕ) → List Row → List ℕ → Type 0
ArePlaces texts rows places = (all names : List (List ℕ)) → IsRowTable all names rows → AreSought all texts
    → places ≡ map (λ ref. ref.0) (meant names texts)

-- the ref at this index, if there is one
abbrev pub ref_at : List (List ℕ) → ℕ → List (ℕ × List ℕ)
ref_at names place = option_to_list (option_map (λ name. (place, name)) (slice_get names place))

-- one of the names is this one, or one of the needles matches it
abbrev pub is_any : List Row → List Needle → List ℕ → Bool
is_any rows needles name = list_any (is_row_of name) rows || list_any (λ needle. is_some (middle_with needle name)) needles

-- the names are sorted, and names and needles match exactly what a negative refspec matches
pub record IsPrepared (prepared : Prepared) : Type 0 where
  pub names_in_order : AreByName prepared.names.items
  pub excludes_all : (name : List ℕ) → is_any prepared.names.items prepared.others.items name ≡ is_excluded (values prepared.specs.now) name
