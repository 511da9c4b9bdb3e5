-- Sources, mappings, refspecs and ref maps as plain data, which clones keep.
use Rattle.std.specs.Prelude.{ℕ, List, map, Option}
use Rattle.std.specs.Option.{option_map}
use Rattle.bstr.specs.Owned.{bstring_bytes}
use Rattle.gixp_hash.specs.declared.kind.Kind.{Kind}
use Rattle.gixp_hash.specs.declared.object_id.ObjectId.{ObjectId}
use Rattle.gixp_refs.specs.Ref.{RefValue, ref_value}
use Rattle.gixp_refspec.specs.Spec.{Spec}
use Rattle.gixp_refspec.specs.RefSpec.{owned_value_of}
use Rattle.gixp_matching.specs.Validation.{Removed}
use Rattle.gixp_matching.specs.Validate.{removed_of}
use Rattle.gixp_refmap.specs.declared.refmap.mapping.Source.{Source}
use Rattle.gixp_refmap.specs.declared.refmap.mapping.Source.TheVariants.{ObjectId as the_id, Ref as the_ref}
use Rattle.gixp_refmap.specs.declared.refmap.mapping.SpecIndex.{SpecIndex}
use Rattle.gixp_refmap.specs.declared.refmap.mapping.Mapping.{Mapping}
use Rattle.gixp_refmap.specs.declared.refmap.init.Context.{Context}
use Rattle.gixp_refmap.specs.declared.refmap.map.RefMap.{RefMap}

-- the source of a mapping
pub data SourceValue : Type 0 where
  an_object : ObjectId → SourceValue
  a_ref : RefValue → SourceValue

abbrev pub source_value : Source → SourceValue
source_value (the_id id) = an_object id
source_value (the_ref r) = a_ref (ref_value r)

pub record MappingValue : Type 0 where
  pub remote : SourceValue
  pub local : Option (List ℕ)
  pub spec_index : SpecIndex

abbrev pub mapping_value : Mapping → MappingValue
mapping_value m = record { remote = source_value m.remote; local = option_map bstring_bytes m.local; spec_index = m.spec_index }

pub record ContextValue : Type 0 where
  pub explicit : List Spec
  pub extra : List Spec

abbrev pub context_value : Context → ContextValue
context_value c = record { explicit = map owned_value_of c.fetch_refspecs.items; extra = map owned_value_of c.extra_refspecs.items }

pub record RefMapValue : Type 0 where
  pub mappings : List MappingValue
  pub explicit : List Spec
  pub extra : List Spec
  pub fixes : List Removed
  pub refs : List RefValue
  pub object_hash : Kind

abbrev pub ref_map_value : RefMap → RefMapValue
ref_map_value m = record {
  mappings = map mapping_value m.mappings.items;
  explicit = map owned_value_of m.refspecs.items;
  extra = map owned_value_of m.extra_refspecs.items;
  fixes = map removed_of m.fixes.items;
  refs = map ref_value m.remote_refs.items;
  object_hash = m.object_hash;
}
