-- A match group, its items and its outcome in contracts.
use Rattle.std.specs.Prelude.{ℕ, List, map, Vec}
use Rattle.std.specs.Option.{option_map}
use Rattle.std.specs.declared.alloc.Global.{Global}
use Rattle.bstr.specs.BStr.{bstr_bytes}
use Rattle.bstr.specs.Owned.{bstring_bytes}
use Rattle.gixp_matching.specs.declared.match_group.Item.{Item}
use Rattle.gixp_matching.specs.declared.match_group.SourceRef.{SourceRef}
use Rattle.gixp_matching.specs.declared.match_group.SourceRef.TheVariants.{FullName as the_name, ObjectId as the_id}
use Rattle.gixp_matching.specs.declared.match_group.Mapping.{Mapping}
use Rattle.gixp_matching.specs.declared.match_group.key.KeyBytes.{KeyBytes}
use Rattle.gixp_matching.specs.declared.match_group.key.KeySource.{KeySource}
use Rattle.gixp_matching.specs.declared.match_group.key.KeySource.TheVariants.{FullName as the_name_key, ObjectId as the_id_key}
use Rattle.gixp_matching.specs.declared.match_group.Outcome.{Outcome}
use Rattle.gixp_matching.specs.declared.match_group.MatchGroup.{MatchGroup}
use Rattle.gixp_refspec.specs.declared.spec.RefSpecRef.{RefSpecRef}
use Rattle.gixp_refspec.specs.Spec.{Spec}
use Rattle.gixp_refspec.specs.RefSpec.{value_of}
use Rattle.gixp_matching.specs.Mappings.{Source, FullName, ObjectId as IdOf, Mapped, mapped}

-- a source as plain data
abbrev pub source_of : SourceRef → Source
source_of (the_name name) = FullName (bstring_bytes name)
source_of (the_id id) = IdOf id.bytes

-- a mapping as plain data
abbrev pub mapped_of : Mapping → Mapped
mapped_of m = mapped m.item_index (source_of m.lhs) (option_map bstring_bytes m.rhs) m.spec_index

abbrev pub mapped_in : Vec Mapping Global → List Mapped
mapped_in v = map mapped_of v.items

abbrev pub key_bytes : KeyBytes → List ℕ
key_bytes key = key.bytes.now

abbrev pub key_source : KeySource → Source
key_source (the_name_key name) = FullName (key_bytes name)
key_source (the_id_key id) = IdOf (key_bytes id)

abbrev pub values : List RefSpecRef → List Spec
values specs = map value_of specs

abbrev pub name_of : Item → List ℕ
name_of item = bstr_bytes item.full_ref_name

abbrev pub names : List Item → List (List ℕ)
names items = map name_of items

-- the refspecs of a group
abbrev pub group_specs : MatchGroup → List Spec
group_specs group = values group.specs.now

abbrev pub outcome_specs : Outcome → List Spec
outcome_specs outcome = values outcome.specs.now
