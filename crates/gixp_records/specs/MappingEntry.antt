-- Mappings as records of numbers, and their local names one after another.
use Rattle.std.specs.Prelude.{ℕ, ◌≡◌, ◌+◌, ◌-◌, ◌^◌, ◌≤◌, min, Bool, true, false, List, [], ◌∷◌, ◌++◌, length, drop, Option, Some, None, Result, Ok, Err}
use Rattle.std.specs.List.{flat_map}
use Rattle.std.specs.Option.{option_copied}
use Rattle.std.specs.declared.alloc.AllocError.{AllocError}
use Rattle.gixp_records.specs.declared.mapping_entry.MappingEntry.{MappingEntry}
use Rattle.gixp_records.specs.declared.mapping_entry.MappingRecord.{MappingRecord}
use Rattle.gixp_records.specs.declared.mapping_entry.MappedRecord.{MappedRecord}

-- the content of a record: two numbers, and a local name if there is one
pub record EntryValue : Type 0 where
  pub item : ℕ
  pub spec : ℕ
  pub local : Option (List ℕ)

abbrev pub entry_value : MappingEntry → EntryValue
entry_value t = record { item = t.item; spec = t.spec; local = option_copied t.local }

-- a local name, empty if there is none
abbrev pub bytes_of : Option (List ℕ) → List ℕ
bytes_of (Some name) = name
bytes_of None = []

abbrev pub local_bytes : EntryValue → List ℕ
local_bytes t = bytes_of t.local

-- the local names, one after another
abbrev pub local_names : List EntryValue → List ℕ
local_names entries = flat_map local_bytes entries

-- 1 if there is a name, otherwise 0
abbrev pub has_name : Option (List ℕ) → ℕ
has_name (Some name) = 1
has_name None = 0

-- the record whose local name is at this offset of the buffer
abbrev pub record_at : ℕ → EntryValue → MappingRecord
record_at at t = record {
  item = t.item;
  spec = t.spec;
  has_local = has_name t.local;
  local = record { at = at; len = length (local_bytes t) };
}

-- the records whose local names are one after another from this offset of the buffer on
abbrev pub records_from : ℕ → List EntryValue → List MappingRecord
records_from at [] = []
records_from at (t ∷ entries) = record_at at t ∷ records_from (at + length (local_bytes t)) entries

-- the sizes, where the last records are removed mappings; the number of bytes is limited to the greatest number
abbrev pub counts_of : List EntryValue → ℕ → MappedRecord
counts_of entries fixes = record {
  mappings = length entries - fixes;
  fixes = fixes;
  names = min (length (local_names entries)) (2 ^ 64 - 1);
}

-- the buffers of a call
pub record MapBuffers : Type 0 where
  pub records : List MappingRecord
  pub names : List ℕ
  pub counts : MappedRecord

abbrev pub buffers : List MappingRecord → List ℕ → MappedRecord → MapBuffers
buffers records names counts = record { records = records; names = names; counts = counts }

-- the buffers are large enough for all records and all local names
abbrev pub HasRoom : List EntryValue → List MappingRecord → List ℕ → Type 0
HasRoom entries records names = (length entries ≤ length records) × (length (local_names entries) ≤ length names)

-- all is written: the first records and the start of the names, and nothing after them
pub record WritesEntries (entries : List EntryValue) (last : ℕ) (old new : MapBuffers) : Type 0 where
  pub room : HasRoom entries old.records old.names
  pub records : new.records ≡ records_from 0 entries ++ drop (length entries) old.records
  pub names : new.names ≡ local_names entries ++ drop (length (local_names entries)) old.names
  pub counts : new.counts ≡ counts_of entries last

-- a buffer is too small: the sizes are written, and nothing else is changed
pub record LacksRoom (entries : List EntryValue) (last : ℕ) (old new : MapBuffers) : Type 0 where
  pub no_room : ¬ (HasRoom entries old.records old.names)
  pub rest : new ≡ record old { counts = counts_of entries last }

-- the buffers, by whether they were large enough
abbrev pub WritesBy : List EntryValue → ℕ → MapBuffers → MapBuffers → Bool → Type 0
WritesBy entries last old new true = WritesEntries entries last old new
WritesBy entries last old new false = LacksRoom entries last old new

-- the same, or an allocation failed, and nothing is changed
abbrev pub WritesOrFails : List EntryValue → ℕ → MapBuffers → MapBuffers → Result Bool AllocError → Type 0
WritesOrFails entries last old new (Ok all) = WritesBy entries last old new all
WritesOrFails entries last old new (Err e) = new ≡ old
