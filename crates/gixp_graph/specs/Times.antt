-- An ordered map from times to lists of numbers that run through one vector, as plain data.
use Rattle.std.specs.Prelude.{◌≡◌, ⊤, ℕ, ℤ, ◌<◌, ◌≤◌, ◌-◌, zero, suc, List, [], ◌∷◌, ◌++◌, map, length, slice_index_or, Option, Some, None, All}
use Rattle.std.specs.List.{flat_map}
use Rattle.std.specs.List.Sorted.{IsPermutation}
use Rattle.std.specs.Map.{keys_of, values_of}
use Rattle.std.specs.BTreeMap.{insert_entry}
use Rattle.std.specs.Ordering.{int_cmp}
use Rattle.std.specs.declared.cmp.Ordering.TheVariants.{Less}
use Rattle.gixp_graph.specs.declared.queue.Entry.{Entry}
use Rattle.gixp_graph.specs.declared.times.Link.{Link}
use Rattle.gixp_graph.specs.Queue.{entry_at}

abbrev pub link_at : List Link → ℕ → Link
link_at links i = slice_index_or links i (record { number = 0; next = 0 })

-- each link continues at an earlier one
abbrev pub IsLinked : List Link → Type 0
IsLinked links = (i : ℕ) → i < length links → (link_at links i).next ≤ i

-- at most so many numbers from a link on; the link is given as its index plus one, or 0 for none
unfoldable pub numbers_from : ℕ → List Link → ℕ → List ℕ
numbers_from zero links next = []
numbers_from (suc most) links zero = []
numbers_from (suc most) links (suc i) = (link_at links i).number ∷ numbers_from most links (link_at links i).next

-- the numbers of a list; its links go back, so there are no more of them than links before it
unfoldable pub numbers_of : List Link → Link → List ℕ
numbers_of links list = list.number ∷ numbers_from list.next links list.next

-- the entries of a list under its time
abbrev pub entries_of : List Link → ℤ × Link → List Entry
entries_of links e = map (entry_at e.0) (numbers_of links e.1)

-- the entries of a map
unfoldable pub entries_in : List Link → List (ℤ × Link) → List Entry
entries_in links lists = flat_map (entries_of links) lists

-- the entries of the list that was taken out of the map, where there is one
abbrev pub taken_entries : List Link → Option (ℤ × Link) → List Entry
taken_entries links None = []
taken_entries links (Some e) = entries_of links e

abbrev pub all_entries : List Link → Option (ℤ × Link) → List (ℤ × Link) → List Entry
all_entries links newest lists = taken_entries links newest ++ entries_in links lists

-- the map with that list put back
abbrev pub with_list : Option (ℤ × Link) → List (ℤ × Link) → List (ℤ × Link)
with_list None lists = lists
with_list (Some e) lists = insert_entry int_cmp lists e.0 e.1

-- a list continues within the links
abbrev pub EndsWithin : List Link → Link → Type 0
EndsWithin links list = list.next ≤ length links

-- each list of a map continues within the links
abbrev pub AllEnd : List Link → List (ℤ × Link) → Type 0
AllEnd links lists = All (EndsWithin links) (values_of lists)

-- the list that was taken out continues within the links, and each time in the map is before its own
abbrev pub IsBeside : List Link → Option (ℤ × Link) → List (ℤ × Link) → Type 0
IsBeside links None lists = ⊤
IsBeside links (Some e) lists = EndsWithin links e.1 × All (λ k. int_cmp k e.0 ≡ Less) (keys_of lists)

-- the invariant of the map and its links
pub record IsTimes (links : List Link) (newest : Option (ℤ × Link)) (lists : List (ℤ × Link)) : Type 0 where
  pub linked : IsLinked links
  pub ends : AllEnd links lists
  pub taken : IsBeside links newest lists

-- a list without its first number
abbrev pub IsRest : List Link → ℤ × Link → Option (ℤ × Link) → Type 0
IsRest links list None = list.1.next ≡ 0
IsRest links list (Some rest) = (rest.0 ≡ list.0) × (0 < list.1.next) × (link_at links (list.1.next - 1) ≡ rest.1)

-- takes the list of the greatest time: out of the map, unless it was taken out before
abbrev pub TakesList : Option (ℤ × Link) → List (ℤ × Link) → ℤ × Link → List (ℤ × Link) → Type 0
TakesList newest old list new = (links : List Link) → IsTimes links newest old
    → IsTimes links (Some list) new × IsPermutation (all_entries links newest old) (all_entries links (Some list) new)
