-- What is printed of a ref map and asked for of its mappings, by the values of its refs.
use Rattle.std.proofs.Common.{◌≡◌, ℕ, Bool, true, false, List, [], ◌∷◌, ◌++◌, map, flat_map, codes, Option, Some, None, Ok, refl, sym, ap, ◌∙◌, subst}
use Rattle.std.specs.List.{AllZip, slice_get}
use Rattle.std.specs.Option.{option_map}
use Rattle.bstr.specs.Owned.{bstring_bytes}
use Rattle.gixp_hash.specs.declared.object_id.ObjectId.{ObjectId}
use Rattle.gixp_refs.specs.declared.handshake.Ref.{Ref}
use Rattle.gixp_refs.specs.declared.handshake.Ref.TheVariants.{Peeled, Direct, Symbolic, Unborn}
use Rattle.gixp_refs.specs.Ref.{RefValue, peeled, direct, symbolic, unborn, ref_value}
use Rattle.gixp_matching.specs.declared.match_group.validate.Fix.{Fix}
use Rattle.gixp_refspec.specs.Spec.{Spec}
use Rattle.gixp_matching.specs.Mappings.{Source as SourceValue, FullName, ObjectId as IdOf, Mapped}
use Rattle.gixp_matching.specs.Validation.{fixes, kept}
use Rattle.gixp_matching.specs.Validate.{removed_of}
use Rattle.gixp_refmap.specs.declared.refmap.mapping.Source.{Source}
use Rattle.gixp_refmap.specs.declared.refmap.mapping.Source.TheVariants.{ObjectId as the_id, Ref as the_ref}
use Rattle.gixp_refmap.specs.declared.refmap.mapping.Mapping.{Mapping}
use Rattle.gixp_refmap.specs.declared.refmap.map.RefMap.{RefMap}
use Rattle.gixp_refmap.specs.Mapping.{source_id, source_name, found_in, IsRemote, IsMapping, AnswersBy}
use Rattle.gixp_negotiate.specs.NegotiationMapping.{is_unborn}
use Rattle.gixp_utils.specs.Pieces.{joined}
use Rattle.gixp_refmap.specs.MappingNames.{name_or_dash}
use Rattle.gixp_planner.specs.Text.{id_shown, mapping_shown, removed_shown, fix_shown, map_shown}

-- what is seen of a mapping: the id and the name that it takes, whether what it takes isn't there yet, and the local name
pub record Seen : Type 0 where
  pub id : Option ObjectId
  pub name : Option (List ℕ)
  pub absent : Bool
  pub local : Option (List ℕ)

abbrev seen_source : Source → Option (List ℕ) → Seen
seen_source x local = record { id = source_id x; name = source_name x; absent = is_unborn x; local = local }

abbrev pub seen : Mapping → Seen
seen m = seen_source m.remote (option_map bstring_bytes m.local)

-- the same by the value of its ref
abbrev seen_named : List ℕ → List ℕ → Option (List ℕ) → Seen
seen_named name bytes local = record { id = Some (record { bytes = bytes }); name = Some name; absent = false; local = local }

abbrev value_seen : RefValue → Option (List ℕ) → Seen
value_seen (peeled name tag object) local = seen_named name tag local
value_seen (direct name object) local = seen_named name object local
value_seen (symbolic name target None object) local = seen_named name object local
value_seen (symbolic name target (Some tag) object) local = seen_named name tag local
value_seen (unborn name target) local = record { id = None; name = Some name; absent = true; local = local }

abbrev found_seen : Option RefValue → Option (List ℕ) → Seen
found_seen (Some v) local = value_seen v local
found_seen None local = record { id = None; name = None; absent = false; local = local }

abbrev item_seen : List RefValue → Option ℕ → SourceValue → Option (List ℕ) → Seen
item_seen refs (Some i) source local = found_seen (slice_get refs i) local
item_seen refs None (FullName name) local = found_seen None local
item_seen refs None (IdOf bytes) local = record { id = Some (record { bytes = bytes }); name = None; absent = false; local = local }

abbrev mapped_seen : List RefValue → Mapped → Seen
mapped_seen refs m = item_seen refs m.item m.source m.local

ref-seen : (r : Ref) (local : Option (List ℕ)) → seen_source (the_ref r) local ≡ value_seen (ref_value r) local
ref-seen (Peeled name tag object) local = refl
ref-seen (Direct name object) local = refl
ref-seen (Symbolic name target None object) local = refl
ref-seen (Symbolic name target (Some tag) object) local = refl
ref-seen (Unborn name target) local = refl

remote-seen : (refs : List RefValue) (item : Option ℕ) (source : SourceValue) (x : Source) (local : Option (List ℕ))
    → IsRemote refs item source x → seen_source x local ≡ item_seen refs item source local
remote-seen refs (Some i) (FullName name) (the_ref r) local h = ref-seen r local ∙ ap (λ o. found_seen o local) (sym h)
remote-seen refs (Some i) (FullName name) (the_id id) local h = absurd h
remote-seen refs (Some i) (IdOf bytes) (the_ref r) local h = absurd h
remote-seen refs (Some i) (IdOf bytes) (the_id id) local h = absurd h
remote-seen refs None (FullName name) (the_ref r) local h = absurd h
remote-seen refs None (FullName name) (the_id id) local h = absurd h
remote-seen refs None (IdOf bytes) (the_ref r) local h = absurd h
remote-seen refs None (IdOf bytes) (the_id id) local h = ap (λ b. item_seen refs None (IdOf b) local) h

mapping-seen : (refs : List RefValue) (count : ℕ) (m : Mapped) (x : Mapping) → IsMapping refs count m x → seen x ≡ mapped_seen refs m
mapping-seen refs count m x h = remote-seen refs m.item m.source x.remote (option_map bstring_bytes x.local) h.remote
    ∙ ap (item_seen refs m.item m.source) h.local

-- ---- what is printed

abbrev seen_shown : Seen → List ℕ
seen_shown s = joined (codes "map " ∷ id_shown s.id ∷ codes " " ∷ name_or_dash s.name ∷ codes " " ∷ name_or_dash s.local ∷ codes "\n" ∷ [])

abbrev pub map_text : List Spec → List RefValue → List ℕ
map_text specs refs = flat_map (λ m. seen_shown (mapped_seen refs m)) (kept (found_in specs refs))
    ++ flat_map removed_shown (fixes specs (found_in specs refs))

mappings-text : (refs : List RefValue) (count : ℕ) (ms : List Mapped) (xs : List Mapping) → AllZip (IsMapping refs count) ms xs
    → flat_map mapping_shown xs ≡ flat_map (λ m. seen_shown (mapped_seen refs m)) ms
mappings-text refs count [] [] h = refl
mappings-text refs count [] (x ∷ xs) h = absurd h
mappings-text refs count (m ∷ ms) [] h = absurd h
mappings-text refs count (m ∷ ms) (x ∷ xs) h =
    ap (λ s. seen_shown s ++ flat_map mapping_shown xs) (mapping-seen refs count m x h.0)
    ∙ ap (λ t. seen_shown (mapped_seen refs m) ++ t) (mappings-text refs count ms xs h.1)

fixes-text : (fs : List Fix) → flat_map fix_shown fs ≡ flat_map removed_shown (map removed_of fs)
fixes-text [] = refl
fixes-text (f ∷ fs) = ap (λ t. fix_shown f ++ t) (fixes-text fs)

pub map-text : (unknown : Option (List ℕ)) (specs : List Spec) (count : ℕ) (refs : List RefValue) (m : RefMap)
    → AnswersBy unknown specs count refs (Ok m) → map_shown m ≡ map_text specs refs
map-text (Some format) specs count refs m h = absurd h
map-text None specs count refs m h =
    ap (λ t. t ++ flat_map fix_shown m.fixes.items) (mappings-text refs count (kept (found_in specs refs)) m.mappings.items h.1)
    ∙ ap (λ t. flat_map (λ x. seen_shown (mapped_seen refs x)) (kept (found_in specs refs)) ++ t)
    (fixes-text m.fixes.items ∙ ap (flat_map removed_shown) h.2)

-- ---- mappings that look alike

abbrev pub LookAlike : List Mapping → List Mapping → Type 0
LookAlike xs ys = AllZip (λ x y. seen x ≡ seen y) xs ys

all-alike : (refs : List RefValue) (count other : ℕ) (ms : List Mapped) (xs ys : List Mapping) → AllZip (IsMapping refs count) ms xs
    → AllZip (IsMapping refs other) ms ys → LookAlike xs ys
all-alike refs count other [] [] [] h k = tt
all-alike refs count other [] [] (y ∷ ys) h k = absurd k
all-alike refs count other [] (x ∷ xs) ys h k = absurd h
all-alike refs count other (m ∷ ms) [] ys h k = absurd h
all-alike refs count other (m ∷ ms) (x ∷ xs) [] h k = absurd k
all-alike refs count other (m ∷ ms) (x ∷ xs) (y ∷ ys) h k =
    (mapping-seen refs count m x h.0 ∙ sym (mapping-seen refs other m y k.0), all-alike refs count other ms xs ys h.1 k.1)

mapped-of : (unknown : Option (List ℕ)) (specs : List Spec) (count : ℕ) (refs : List RefValue) (m : RefMap)
    → AnswersBy unknown specs count refs (Ok m)
    → AllZip (IsMapping refs count) (kept (found_in specs refs)) m.mappings.items
mapped-of (Some format) specs count refs m h = absurd h
mapped-of None specs count refs m h = h.1

-- the mappings of the same refs by the same refspecs
pub look-alike : (unknown other : Option (List ℕ)) (specs others : List Spec) (count k : ℕ) (refs more : List RefValue) (m n : RefMap)
    → specs ≡ others → refs ≡ more → AnswersBy unknown specs count refs (Ok m)
    → AnswersBy other others k more (Ok n) → LookAlike m.mappings.items n.mappings.items
look-alike unknown other specs others count k refs more m n e f l r =
    all-alike refs count k (kept (found_in specs refs)) m.mappings.items n.mappings.items (mapped-of unknown specs count refs m l)
    (subst (λ v. AllZip (IsMapping v k) (kept (found_in specs v)) n.mappings.items) (sym f)
    (subst (λ s. AllZip (IsMapping more k) (kept (found_in s more)) n.mappings.items) (sym e) (mapped-of other others k more n r)))
