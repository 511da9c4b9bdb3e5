-- The report of a fetch, and the list of a server's refs.
use Rattle.std.specs.Prelude.{ℕ, if◌then◌else◌, List, [], ◌∷◌, ◌++◌, flat_map, codes, Option, Some, None}
use Rattle.std.specs.Fmt.{decimal}
use Rattle.std.specs.Option.{option_map}
use Rattle.std.specs.List.{enumerate_from}
use Rattle.std.specs.Str.{bytes_eq}
use Rattle.bstr.specs.Owned.{bstring_bytes}
use Rattle.gixp_hash.specs.Hex.{encode_lower}
use Rattle.gixp_hash.specs.declared.object_id.ObjectId.{ObjectId}
use Rattle.gixp_matching.specs.declared.match_group.validate.Fix.{Fix}
use Rattle.gixp_matching.specs.Validation.{Removed}
use Rattle.gixp_matching.specs.Validate.{removed_of}
use Rattle.gixp_refmap.specs.declared.refmap.mapping.Mapping.{Mapping}
use Rattle.gixp_refmap.specs.declared.refmap.map.RefMap.{RefMap}
use Rattle.gixp_refmap.specs.declared.refmap.mapping.SpecIndex.{SpecIndex}
use Rattle.gixp_refmap.specs.declared.refmap.mapping.SpecIndex.TheVariants.{ExplicitInRemote, Implicit}
use Rattle.gixp_refmap.specs.Mapping.{source_id, source_name}
use Rattle.gixp_refs.specs.declared.handshake.Ref.{Ref}
use Rattle.gixp_refs.specs.Ref.{RefValue, peeled, direct, symbolic, unborn, ref_value}
use Rattle.gixp_pack.specs.declared.check.PackSummary.{PackSummary}
use Rattle.gixp_utils.specs.Pieces.{joined}
use Rattle.gixp_refmap.specs.MappingNames.{name_or_dash}
use Rattle.gixp_fetch_cli.specs.declared.change.Change.{Change}
use Rattle.gixp_fetch_cli.specs.declared.change.Change.TheVariants.{New, FastForward, Forced, Same, Refused}
use Rattle.gixp_fetch_cli.specs.Changes.{change_in}

-- a mapping of a refspec, or of a tag that is fetched with the refspecs
abbrev pub mapping_word : SpecIndex → List ℕ
mapping_word (ExplicitInRemote index) = codes "map "
mapping_word (Implicit index) = codes "tag "

abbrev pub id_text : Option ObjectId → List ℕ
id_text (Some id) = encode_lower id.bytes
id_text None = codes "unborn"

-- the change of a local ref, where it is known
abbrev pub change_word : Option Change → List ℕ
change_word (Some New) = codes "new "
change_word (Some FastForward) = codes "fast-forward "
change_word (Some Forced) = codes "forced "
change_word (Some Same) = codes "same "
change_word (Some Refused) = codes "refused "
change_word None = []

-- a mapping: the change of its local ref, the remote id and name, and the local name
abbrev pub mapping_line : Option Change → Mapping → List ℕ
mapping_line change m =
    change_word change ++ joined (mapping_word m.spec_index ∷ id_text (source_id m.remote) ∷ codes " " ∷ name_or_dash (source_name m.remote)
    ∷ codes " " ∷ name_or_dash (option_map bstring_bytes m.local) ∷ codes "\n" ∷ [])

-- the mappings with their changes
abbrev pub numbered_line : List (Option Change) → ℕ × Mapping → List ℕ
numbered_line changes p = mapping_line (change_in changes p.0) p.1

abbrev pub mapping_lines : List (Option Change) → List Mapping → List ℕ
mapping_lines changes ms = flat_map (numbered_line changes) (enumerate_from 0 ms)

abbrev pub removed_line : Removed → List ℕ
removed_line r = joined (codes "fix " ∷ name_or_dash r.name ∷ codes " " ∷ r.spec ∷ codes "\n" ∷ [])

-- a mapping that was removed: its local name, and its refspec
abbrev pub fix_line : Fix → List ℕ
fix_line f = removed_line (removed_of f)

-- the target of `HEAD`
abbrev pub head_line : (name target : List ℕ) → List ℕ
head_line name target = if bytes_eq name (codes "HEAD") then joined (codes "default " ∷ target ∷ codes "\n" ∷ []) else []

abbrev pub default_line : RefValue → List ℕ
default_line (peeled name tag object) = []
default_line (direct name object) = []
default_line (symbolic name target tag object) = head_line name target
default_line (unborn name target) = head_line name target

-- the pack's numbers of bytes and objects, or `nothing`
abbrev pub pack_line : Option PackSummary → List ℕ
pack_line None = codes "nothing\n"
pack_line (Some s) = joined (codes "pack " ∷ decimal s.bytes ∷ codes " " ∷ decimal s.objects ∷ codes "\n" ∷ [])

abbrev pub default_of_ref : Ref → List ℕ
default_of_ref found = default_line (ref_value found)

-- the mappings, the removed mappings, the target of `HEAD`, and the pack
abbrev pub fetch_report : RefMap → List (Option Change) → Option PackSummary → List ℕ
fetch_report m changes pack = mapping_lines changes m.mappings.items
    ++ (flat_map fix_line m.fixes.items ++ (flat_map default_of_ref m.remote_refs.items ++ pack_line pack))

-- an id with a name (git-ls-remote)
abbrev pub id_line : (id name : List ℕ) → List ℕ
id_line id name = joined (encode_lower id ∷ codes "\t" ∷ name ∷ codes "\n" ∷ [])

-- the object of the tag of this name
abbrev pub peeled_line : (id name : List ℕ) → List ℕ
peeled_line id name = joined (encode_lower id ∷ codes "\t" ∷ name ∷ codes "^{}\n" ∷ [])

-- the ref that a symbolic ref names
abbrev pub target_line : (name target : List ℕ) → List ℕ
target_line name target = joined (codes "ref: " ∷ target ∷ codes "\t" ∷ name ∷ codes "\n" ∷ [])

abbrev pub tagged_lines : (name : List ℕ) → Option (List ℕ) → (object : List ℕ) → List ℕ
tagged_lines name None object = id_line object name
tagged_lines name (Some tag) object = id_line tag name ++ peeled_line object name

-- a ref (git-ls-remote, `--symref`)
abbrev pub ref_value_lines : RefValue → List ℕ
ref_value_lines (peeled name tag object) = tagged_lines name (Some tag) object
ref_value_lines (direct name object) = tagged_lines name None object
ref_value_lines (symbolic name target tag object) = target_line name target ++ tagged_lines name tag object
ref_value_lines (unborn name target) = target_line name target

abbrev pub ref_lines : Ref → List ℕ
ref_lines found = ref_value_lines (ref_value found)
