-- Mappings while they are made: the index of each refspec is the one in both lists together, as if all were explicit.
use Rattle.std.specs.Prelude.{ℕ, ◌≡◌, ◌<◌, ⊤, List, [], ◌∷◌, take, Option, Some, None, IsSome, option_to_list}
use Rattle.std.specs.Option.{option_map}
use Rattle.std.specs.List.{slice_get, AllZip}
use Rattle.bstr.specs.Owned.{bstring_bytes}
use Rattle.gixp_refs.specs.declared.handshake.Ref.{Ref}
use Rattle.gixp_refs.specs.Ref.{RefValue, ref_value, unpacked_name}
use Rattle.gixp_refspec.specs.Spec.{Spec}
use Rattle.gixp_matching.specs.declared.match_group.Place.{Place}
use Rattle.gixp_matching.specs.Mappings.{Source as SourceValue, FullName, ObjectId as IdOf, Mapped, mapped}
use Rattle.gixp_matching.specs.Places.{local_for, id_for}
use Rattle.gixp_matching.specs.declared.match_group.single.Single.{Single}
use Rattle.gixp_matching.specs.Single.{IsSingle, single_pair}
use Rattle.gixp_refmap.specs.declared.refmap.mapping.Source.{Source}
use Rattle.gixp_refmap.specs.declared.refmap.mapping.Source.TheVariants.{ObjectId as the_id, Ref as the_ref}
use Rattle.gixp_refmap.specs.declared.refmap.mapping.SpecIndex.{SpecIndex}
use Rattle.gixp_refmap.specs.declared.refmap.mapping.SpecIndex.TheVariants.{ExplicitInRemote, Implicit}
use Rattle.gixp_refmap.specs.declared.refmap.mapping.Mapping.{Mapping}
use Rattle.gixp_refmap.specs.Mapping.{spec_place, IsRemote}

-- the source that matching reads: the name of the ref, or the bytes of the id
abbrev pub taken_from : Source → SourceValue
taken_from (the_id id) = IdOf id.bytes
taken_from (the_ref r) = FullName (unpacked_name r)

-- the number in the index of a refspec
abbrev pub place_number : SpecIndex → ℕ
place_number (ExplicitInRemote i) = i
place_number (Implicit i) = i

-- the parts of a mapping that matching reads
abbrev pub matched : Mapping → Mapped
matched x = mapped None (taken_from x.remote) (option_map bstring_bytes x.local) (place_number x.spec_index)

-- a mapping with the index of its refspec in its own list, where the first list has so many
abbrev pub in_its_list : ℕ → Mapping → Mapping
in_its_list count x = record x { spec_index = spec_place count (place_number x.spec_index) }

-- the ref of a place is one of so many; or without a ref, its refspec names an id
abbrev pub IsItemThere : ℕ → List Spec → Option ℕ → ℕ → Type 0
IsItemThere count specs (Some i) s = i < count
IsItemThere count specs None s = IsSome (id_for (slice_get specs s))

abbrev pub IsThere : ℕ → List Spec → Place → Type 0
IsThere count specs p = IsItemThere count specs p.item_index p.spec_index

-- the source at a place: the ref, or without one the id of the refspec
abbrev pub IsTakenByPlace : List RefValue → List Spec → Option ℕ → ℕ → Source → Type 0
IsTakenByPlace refs specs (Some i) s (the_ref r) = slice_get refs i ≡ Some (ref_value r)
IsTakenByPlace refs specs None s (the_id id) = id_for (slice_get specs s) ≡ Some id.bytes
IsTakenByPlace refs specs _ s _ = ⊥

-- the mapping at a place
pub record IsMade (refs : List RefValue) (specs : List Spec) (p : Place) (x : Mapping) : Type 0 where
  pub remote : IsTakenByPlace refs specs p.item_index p.spec_index x.remote
  pub local : option_map bstring_bytes x.local ≡ local_for (slice_get specs p.spec_index) (taken_from x.remote)
  pub place : x.spec_index ≡ ExplicitInRemote p.spec_index

-- a mapping of these refs, with the index of its refspec in both lists together
pub record IsUnplaced (refs : List RefValue) (m : Mapped) (x : Mapping) : Type 0 where
  pub remote : IsRemote refs m.item m.source x.remote
  pub source : taken_from x.remote ≡ m.source
  pub local : option_map bstring_bytes x.local ≡ m.local
  pub place : x.spec_index ≡ ExplicitInRemote m.spec

-- the mapping that the single refspec makes of a ref
abbrev pub IsOfSingle : Single → Ref → Option Mapping → Type 0
IsOfSingle single r one = (specs : List Spec) → IsSingle specs single → (refs : List RefValue) (i : ℕ)
    → slice_get refs i ≡ Some (ref_value r) → AllZip (IsUnplaced refs) (single_pair specs single (i, unpacked_name r)) (option_to_list one)

-- the refs of the places, taken from the last place on, are among so many, and each comes before the one taken before it
abbrev pub Falls : ℕ → List (Option ℕ) → Type 0
Falls count [] = ⊤
Falls count (None ∷ items) = Falls count items
Falls count (Some i ∷ items) = (i < count) × Falls i items

-- the refs before the ref of a place
abbrev pub refs_before : Option ℕ → List Ref → List Ref
refs_before None refs = refs
refs_before (Some i) refs = take i refs
