-- The mappings that refspecs make from refs, as records (git-fetch, "<refspec>").
use Rattle.std.specs.Prelude.{ℕ, ◌≡◌, ◌≢◌, ◌⊎◌, All, Bool, true, false, List, [], ◌++◌, length, map, Some, Result, Ok, Err, unwrap_or}
use Rattle.std.specs.declared.alloc.AllocError.{AllocError}
use Rattle.gixp_refspec.specs.Spec.{Spec}
use Rattle.gixp_matching.specs.Mappings.{Mapped, mappings}
use Rattle.gixp_matching.specs.Validation.{Conflict, Removed, conflicts, fixes, kept}
use Rattle.gixp_records.specs.declared.refs.RefRecord.{RefRecord}
use Rattle.gixp_records.specs.declared.mapped_refs.MapEnd.{MapEnd}
use Rattle.gixp_records.specs.declared.mapped_refs.MapEnd.TheVariants.{Mapped as AllMapped, Conflicts, NoRoom}
use Rattle.gixp_records.specs.declared.mapped_refs.MapRefused.{MapRefused}
use Rattle.gixp_records.specs.declared.mapped_refs.MapRefused.TheVariants.{Place, Spec as RefusedSpec, Memory}
use Rattle.gixp_records.specs.Span.{text_at, IsWithin}
use Rattle.gixp_records.specs.SpecText.{specs_of_lines}
use Rattle.gixp_records.specs.MappingEntry.{EntryValue, MapBuffers, WritesEntries, LacksRoom}

-- the names of the refs
abbrev pub names_in : List ℕ → List RefRecord → List (List ℕ)
names_in bytes refs = map (λ (r : RefRecord). text_at bytes r.name) refs

-- all names are within the bytes
abbrev pub AreNamesWithin : List ℕ → List RefRecord → Type 0
AreNamesWithin bytes refs = All (λ (r : RefRecord). IsWithin bytes r.name) refs

-- the record of a mapping: the index of its ref, or the number of refs if the refspec names an object; its refspec; its local name
abbrev pub mapping_entry : ℕ → Mapped → EntryValue
mapping_entry refs m = record { item = unwrap_or m.item refs; spec = m.spec; local = m.local }

-- the record of a removed mapping: its local name
abbrev pub removed_entry : ℕ → ℕ → Removed → EntryValue
removed_entry refs specs r = record { item = refs; spec = specs; local = r.name }

-- the record of a conflict: the number of mappings with this local name
abbrev pub conflict_entry : ℕ → Conflict → EntryValue
conflict_entry specs c = record { item = length c.sources; spec = specs; local = Some c.destination }

-- the records of the mappings that remain, then those of the removed ones
abbrev pub mapping_entries : ℕ → List Spec → List Mapped → List EntryValue
mapping_entries refs specs ms = map (mapping_entry refs) (kept ms) ++ map (removed_entry refs (length specs)) (fixes specs ms)

abbrev pub conflict_entries : List Spec → List Mapped → List EntryValue
conflict_entries specs ms = map (conflict_entry (length specs)) (conflicts specs ms)

module _ (refs : ℕ) (specs : List Spec) (ms : List Mapped) (old new : MapBuffers) where
  -- the buffers have the mappings or else the conflicts, or the sizes that these need
  abbrev pub WritesMap : MapEnd → Type 0
  WritesMap AllMapped = (conflicts specs ms ≡ []) × WritesEntries (mapping_entries refs specs ms) (length (fixes specs ms)) old new
  WritesMap Conflicts = (conflicts specs ms ≢ []) × WritesEntries (conflict_entries specs ms) 0 old new
  WritesMap NoRoom = ((conflicts specs ms ≡ []) × LacksRoom (mapping_entries refs specs ms) (length (fixes specs ms)) old new)
      ⊎ ((conflicts specs ms ≢ []) × LacksRoom (conflict_entries specs ms) 0 old new)

-- the refs are mapped by the refspecs of the lines; or a refspec or a span is invalid or an allocation failed, and nothing is
-- changed
abbrev pub MapsRecords : List ℕ → List RefRecord → List (List ℕ) → MapBuffers → MapBuffers → Result MapEnd MapRefused → Type 0
MapsRecords bytes refs lines old new (Ok end) = (specs : List Spec) × (specs_of_lines lines ≡ Ok specs) × AreNamesWithin bytes refs
    × WritesMap (length refs) specs (mappings specs (names_in bytes refs)) old new end
MapsRecords bytes refs lines old new (Err (RefusedSpec e)) = (specs_of_lines lines ≡ Err e) × (new ≡ old)
MapsRecords bytes refs lines old new (Err Place) = (¬ (AreNamesWithin bytes refs)) × (new ≡ old)
MapsRecords bytes refs lines old new (Err Memory) = new ≡ old

-- the result of a call, by whether the buffers were large enough
abbrev pub end_of : Result Bool AllocError → MapEnd → Result MapEnd MapRefused
end_of (Ok true) whole = Ok whole
end_of (Ok false) whole = Ok NoRoom
end_of (Err e) whole = Err Memory
