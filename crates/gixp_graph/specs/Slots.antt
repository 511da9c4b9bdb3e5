-- The numbers of ids, in slots by their first bytes.
use Rattle.std.specs.Prelude.{◌≡◌, ℕ, ◌+◌, ◌<◌, ◌==◌, ◌||◌, ◌⊎◌, zero, suc, if◌then◌else◌, List, [], ◌∷◌, length, Option, Some, None, bit_and, slice_index, slice_get}
use Rattle.std.specs.Int.{from_le_bytes, w32}
use Rattle.std.specs.Map.{lookup}
use Rattle.std.specs.BTreeMap.{is_at}
use Rattle.gixp_hash.specs.declared.object_id.ObjectId.{ObjectId}
use Rattle.gixp_hash.specs.ObjectId.{id_cmp}
use Rattle.gixp_graph.specs.declared.numbers.Slot.{Slot}
use Rattle.gixp_graph.specs.declared.numbers.Numbers.{Numbers}
use Rattle.gixp_graph.specs.Table.{id_at}

-- the first bytes of an id, as a number
unfoldable pub tag_of : ObjectId → ℕ
tag_of id = from_le_bytes w32 (slice_index id.bytes 0 ∷ slice_index id.bytes 1 ∷ slice_index id.bytes 2 ∷ slice_index id.bytes 3 ∷ [])

-- the slot of an id's number
abbrev pub slot_of : ObjectId → ℕ → Slot
slot_of id n = record { tag = tag_of id; end = n + 1 }

-- this index, where the slot at it is free or has the tag, else the next result
abbrev pub place_at : Option Slot → ℕ → ℕ → Option ℕ → Option ℕ
place_at None tag index after = None
place_at (Some s) tag index after = if s.end == 0 || s.tag == tag then Some index else after

-- the first of so many slots, from an index on, that is free or has the tag
unfoldable pub place_from : List Slot → ℕ → ℕ → ℕ → Option ℕ
place_from slots tag index zero = None
place_from slots tag index (suc k) = place_at (slice_get slots index) tag index (place_from slots tag (index + 1) k)

-- the first slot of a tag's window that is free or has the tag
abbrev pub place_of : List Slot → ℕ → ℕ → Option ℕ
place_of slots mask tag = place_from slots tag (bit_and tag mask) 16

-- a tag has no free slot
abbrev pub IsTaken : List Slot → ℕ → ℕ → Type 0
IsTaken slots mask tag = (i : ℕ) (s : Slot) → place_of slots mask tag ≡ Some i → slice_get slots i ≡ Some s → 0 < s.end

-- an id's slot has its number
abbrev pub IsPlaced : List Slot → ℕ → ObjectId → ℕ → Type 0
IsPlaced slots mask id n = (i : ℕ) × (place_of slots mask (tag_of id) ≡ Some i) × (slice_get slots i ≡ Some (slot_of id n))

-- the number that the ordered map has under an id
abbrev pub other_at : List (ObjectId × ℕ) → ObjectId → Option ℕ
other_at others id = lookup (is_at (id_cmp id)) others

-- a look-up of an id finds a number, in the slots or in the map
abbrev pub IsReachedIn : List Slot → ℕ → List (ObjectId × ℕ) → ObjectId → ℕ → Type 0
IsReachedIn slots mask others id n = IsPlaced slots mask id n ⊎ (IsTaken slots mask (tag_of id) × (other_at others id ≡ Some n))

-- a look-up of an id finds a number
abbrev pub IsReached : Numbers → ObjectId → ℕ → Type 0
IsReached a id n = IsReachedIn a.slots.items a.mask a.others.entries id n

-- each number that was found is still found, but for one id
abbrev pub Keeps : Numbers → Numbers → ObjectId → Type 0
Keeps a b id = (q : ObjectId) (n : ℕ) → (q ≡ id → ⊥) → IsReached a q n → IsReached b q n

-- each number is found by its id
abbrev pub IsNumbered : List ObjectId → Numbers → Type 0
IsNumbered ids a = (n : ℕ) → n < length ids → IsReached a (id_at ids n) n

-- no number names this id
abbrev pub IsNew : List ObjectId → ObjectId → Type 0
IsNew ids id = (n : ℕ) → n < length ids → id_at ids n ≡ id → ⊥

-- the number that the ordered map has under an id, if any, doesn't name it
abbrev pub IsNoOther : List ObjectId → List (ObjectId × ℕ) → ObjectId → Type 0
IsNoOther ids others id = (n : ℕ) → n < length ids → id_at ids n ≡ id → other_at others id ≡ Some n → ⊥
