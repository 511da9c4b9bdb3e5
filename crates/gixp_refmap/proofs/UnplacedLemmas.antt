-- From mappings that are made from places to the mappings of a ref map.
use Rattle.std.proofs.Common.{◌≡◌, ℕ, ◌≤◌, arith, Bool, true, false, List, [], ◌∷◌, Option, Some, None, length, map, refl, ap, sym, ◌∙◌, subst, Vec, Result, Ok, Err}
use Rattle.std.specs.Prelude.{IsSome, filter, not}
use Rattle.std.specs.List.{slice_get, AllZip, AllByRecursion}
use Rattle.std.specs.Option.{option_map}
use Rattle.std.proofs.lemmas.Bool.{lt-ltb}
use Rattle.std.proofs.lemmas.List.{length-map}
use Rattle.std.proofs.lemmas.Option.{slice_get_within, slice_get-map}
use Rattle.std.specs.declared.alloc.Global.{Global}
use Rattle.gixp_refs.specs.declared.handshake.Ref.{Ref}
use Rattle.gixp_refs.specs.declared.handshake.Ref.TheVariants.{Peeled, Direct, Symbolic, Unborn}
use Rattle.gixp_refs.specs.Ref.{RefValue, ref_value, unpacked_name}
use Rattle.gixp_refspec.specs.Spec.{Spec}
use Rattle.gixp_matching.specs.declared.match_group.Place.{Place}
use Rattle.gixp_matching.specs.Mappings.{Source as SourceValue, FullName, ObjectId as IdOf, Mapped, firsts}
use Rattle.gixp_matching.specs.declared.match_group.validate.Fix.{Fix}
use Rattle.gixp_matching.specs.declared.match_group.validate.Error.{Error as ValidationError}
use Rattle.gixp_matching.specs.Validate.{ValidatesAs}
use Rattle.gixp_matching.specs.Places.{repeated, place_of, place_value, local_for, IsSourceAt, FollowsFromPlace}
use Rattle.gixp_matching.specs.Firsts.{first_flags, flagged}
use Rattle.gixp_matching.specs.Validation.{conflicts, fixes, is_partial, is_partial_local, kept}
use Rattle.gixp_matching.specs.Leaving.{without_item}
use Rattle.gixp_matching.specs.RefspecLaws.{MappingsHaveOrigins}
use Rattle.gixp_refmap.specs.declared.refmap.mapping.Source.{Source}
use Rattle.gixp_refmap.specs.declared.refmap.mapping.Source.TheVariants.{ObjectId as the_id, Ref as the_ref}
use Rattle.gixp_refmap.specs.declared.refmap.mapping.SpecIndex.{SpecIndex}
use Rattle.gixp_refmap.specs.declared.refmap.mapping.Mapping.{Mapping}
use Rattle.gixp_refmap.specs.declared.refmap.init.Error.{Error}
use Rattle.gixp_refmap.specs.declared.refmap.init.Error.TheVariants.{MappingValidation}
use Rattle.gixp_refmap.specs.Mapping.{value_name, value_names, found_in, spec_place, IsRemote, IsMapping, Maps}
use Rattle.gixp_refmap.specs.Made.{taken_from, place_number, matched, in_its_list, IsItemThere, IsThere, IsTakenByPlace, IsMade, IsUnplaced}
use Rattle.gixp_refmap.proofs.AllLemmas.{kept_are_good}
use Rattle.gixp_refmap.proofs.FoundLemmas.{Good}
use Rattle.gixp_matching.proofs.SameValidationLemmas.{conflicts_of_bare, fixes_of_bare}
use Rattle.gixp_refmap.proofs.BareLemmas.{flags_of_bare, firsts_by_flags}

-- a source by its place is valid
item_is_there : (specs : List Spec) (names : List (List ℕ)) (item : Option ℕ) (s : ℕ) (source : SourceValue)
    → IsSourceAt specs names item s source → IsItemThere (length names) specs item s
item_is_there specs names (Some i) s (FullName name) h = slice_get_within names i name h
item_is_there specs names (Some i) s (IdOf id) h = absurd h
item_is_there specs names None s (FullName name) h = absurd h
item_is_there specs names None s (IdOf id) h = let P : Option (List ℕ) → Type 0 = λ o. IsSome o in subst P (sym h) refl

-- the places of mappings are valid
all_there : (specs : List Spec) (names : List (List ℕ)) (ps : List Place) (ms : List Mapped) → map place_value ps ≡ map place_of ms
    → AllByRecursion (FollowsFromPlace specs names) ms → AllByRecursion (IsThere (length names) specs) ps
all_there specs names [] ms e h = tt
all_there specs names (p ∷ ps) [] e h = cc
all_there specs names (p ∷ ps) (m ∷ ms) e h =
    let same : place_of m ≡ place_value p = cc in
    let item : m.item ≡ p.item_index = ap (λ (o : Option ℕ × ℕ). o.0) same in
    let spec : m.spec ≡ p.spec_index = ap (λ (o : Option ℕ × ℕ). o.1) same in
    let P : Option ℕ → Type 0 = λ i. IsItemThere (length names) specs i m.spec in
    let Q : ℕ → Type 0 = λ s. IsItemThere (length names) specs p.item_index s in
    let rest : map place_value ps ≡ map place_of ms = cc in
    (subst Q spec (subst P item (item_is_there specs names m.item m.spec m.source h.0.source)), all_there specs names ps ms rest h.1)

-- the places of mappings of refs are valid
pub places_are_there : (specs : List Spec) (refs : List Ref) (ps : List Place) (ms : List Mapped)
    → map place_value ps ≡ map place_of ms → AllByRecursion (FollowsFromPlace specs (value_names (map ref_value refs))) ms
    → AllByRecursion (IsThere (length refs) specs) ps
places_are_there specs refs ps ms e h =
    let names = value_names (map ref_value refs) in
    let l : length names ≡ length refs = length-map (map ref_value refs) value_name ∙ length-map refs ref_value in
    let P : ℕ → Type 0 = λ n. AllByRecursion (IsThere n specs) ps in
    subst P l (all_there specs names ps ms e h)

pub name_of_value : (r : Ref) → unpacked_name r ≡ value_name (ref_value r)
name_of_value (Peeled name tag object) = refl
name_of_value (Direct name object) = refl
name_of_value (Symbolic name target None object) = refl
name_of_value (Symbolic name target (Some tag) object) = refl
name_of_value (Unborn name target) = refl

-- a name by its index is the name of the ref at it
name_there : (refs : List RefValue) (i : ℕ) (name : List ℕ) (r : Ref) → slice_get (value_names refs) i ≡ Some name
    → slice_get refs i ≡ Some (ref_value r) → unpacked_name r ≡ name
name_there refs i name r h t =
    let there : Some (value_name (ref_value r)) ≡ Some name = sym (slice_get-map value_name refs i ∙ ap (option_map value_name) t) ∙ h in
    let same : value_name (ref_value r) ≡ name = cc in
    name_of_value r ∙ same

-- the source at a place is the source of the mapping
remote_of : (specs : List Spec) (refs : List RefValue) (item : Option ℕ) (s : ℕ) (source : SourceValue) (x : Source)
    → IsSourceAt specs (value_names refs) item s source → IsTakenByPlace refs specs item s x
    → IsRemote refs item source x × (taken_from x ≡ source)
remote_of specs refs (Some i) s (FullName name) (the_ref r) h t = (t, ap FullName (name_there refs i name r h t))
remote_of specs refs (Some i) s (FullName name) (the_id id) h t = absurd t
remote_of specs refs (Some i) s (IdOf bytes) x h t = absurd h
remote_of specs refs None s (FullName name) x h t = absurd h
remote_of specs refs None s (IdOf bytes) (the_ref r) h t = absurd t
remote_of specs refs None s (IdOf bytes) (the_id id) h t = let same : id.bytes ≡ bytes = cc in (same, ap IdOf same)

-- the mapping at a place
unplaced_of : (specs : List Spec) (refs : List RefValue) (p : Place) (m : Mapped) (x : Mapping) → p.item_index ≡ m.item
    → p.spec_index ≡ m.spec → FollowsFromPlace specs (value_names refs) m → IsMade refs specs p x → IsUnplaced refs m x
unplaced_of specs refs p m x item spec f h =
    let P : Option ℕ → Type 0 = λ i. IsTakenByPlace refs specs i p.spec_index x.remote in
    let Q : ℕ → Type 0 = λ s. IsTakenByPlace refs specs m.item s x.remote in
    let found = remote_of specs refs m.item m.spec m.source x.remote f.source (subst Q spec (subst P item h.remote)) in
    record {
      remote = found.0;
      source = found.1;
      local = h.local ∙ ap (λ s. local_for (slice_get specs s) (taken_from x.remote)) spec
          ∙ ap (local_for (slice_get specs m.spec)) found.1 ∙ sym f.local;
      place = h.place ∙ ap SpecIndex.ExplicitInRemote spec;
    }

-- the mappings at places
pub unplaced_of_places : (specs : List Spec) (refs : List RefValue) (ps : List Place) (ms : List Mapped) (xs : List Mapping)
    → map place_value ps ≡ map place_of ms → AllByRecursion (FollowsFromPlace specs (value_names refs)) ms
    → AllZip (IsMade refs specs) ps xs → AllZip (IsUnplaced refs) ms xs
unplaced_of_places specs refs [] [] xs e f h = h
unplaced_of_places specs refs [] (m ∷ ms) xs e f h = cc
unplaced_of_places specs refs (p ∷ ps) [] xs e f h = cc
unplaced_of_places specs refs (p ∷ ps) (m ∷ ms) [] e f h = absurd h
unplaced_of_places specs refs (p ∷ ps) (m ∷ ms) (x ∷ xs) e f h =
    let same : place_value p ≡ place_of m = cc in
    let item : p.item_index ≡ m.item = ap (λ (o : Option ℕ × ℕ). o.0) same in
    let spec : p.spec_index ≡ m.spec = ap (λ (o : Option ℕ × ℕ). o.1) same in
    let rest : map place_value ps ≡ map place_of ms = cc in
    (unplaced_of specs refs p m x item spec f.0 h.0, unplaced_of_places specs refs ps ms xs rest f.1 h.1)

-- matching reads all of a mapping but the index of the ref
bare_one : (refs : List RefValue) (m : Mapped) (x : Mapping) → IsUnplaced refs m x → matched x ≡ without_item m
bare_one refs m x h =
    let spec : place_number x.spec_index ≡ m.spec = ap place_number h.place in
    rw (h.source, h.local, spec) refl

bare_of : (refs : List RefValue) (ms : List Mapped) (xs : List Mapping) → AllZip (IsUnplaced refs) ms xs
    → map matched xs ≡ map without_item ms
bare_of refs [] [] h = refl
bare_of refs [] (x ∷ xs) h = absurd h
bare_of refs (m ∷ ms) [] h = absurd h
bare_of refs (m ∷ ms) (x ∷ xs) h =
    ap (λ y. y ∷ map matched xs) (bare_one refs m x h.0) ∙ ap (λ ys. without_item m ∷ ys) (bare_of refs ms xs h.1)

zip_flagged : {A B : Type 0} (R : A → B → Type 0) (xs : List A) (ys : List B) (flags : List Bool) → AllZip R xs ys
    → AllZip R (flagged xs flags) (flagged ys flags)
zip_flagged R [] [] flags h = tt
zip_flagged R [] (y ∷ ys) flags h = absurd h
zip_flagged R (x ∷ xs) [] flags h = absurd h
zip_flagged R (x ∷ xs) (y ∷ ys) [] h = tt
zip_flagged R (x ∷ xs) (y ∷ ys) (true ∷ flags) h = (h.0, zip_flagged R xs ys flags h.1)
zip_flagged R (x ∷ xs) (y ∷ ys) (false ∷ flags) h = zip_flagged R xs ys flags h.1

-- the first of equal mappings
firsts_unplaced : (refs : List RefValue) (ms : List Mapped) (xs ys : List Mapping) → AllZip (IsUnplaced refs) ms xs
    → ys ≡ flagged xs (first_flags [] (map matched xs)) → AllZip (IsUnplaced refs) (firsts ms) ys
firsts_unplaced refs ms xs ys h e =
    let flags : first_flags [] (map matched xs) ≡ first_flags [] ms = ap (first_flags []) (bare_of refs ms xs h) ∙ flags_of_bare [] ms in
    let P : List Mapping → Type 0 = λ zs. AllZip (IsUnplaced refs) (firsts ms) zs in
    let Q : List Mapped → Type 0 = λ ns. AllZip (IsUnplaced refs) ns (flagged xs (first_flags [] ms)) in
    subst P (sym (e ∙ ap (flagged xs) flags)) (subst Q (firsts_by_flags ms) (zip_flagged (IsUnplaced refs) ms xs (first_flags [] ms) h))

-- one more mapping that stays
kept_more : (refs : List RefValue) (m : Mapped) (x : Mapping) (ms : List Mapped) (xs : List Mapping) (b : Bool)
    → not (is_partial m) ≡ b → not (is_partial (matched x)) ≡ b → IsUnplaced refs m x
    → AllZip (IsUnplaced refs) (filter (λ n. not (is_partial n)) ms) (filter (λ y. not (is_partial (matched y))) xs)
    → AllZip (IsUnplaced refs) (filter (λ n. not (is_partial n)) (m ∷ ms)) (filter (λ y. not (is_partial (matched y))) (x ∷ xs))
kept_more refs m x ms xs true e f h rest = rw (e, f) (h, rest)
kept_more refs m x ms xs false e f h rest = rw (e, f) rest

-- the mappings that stay
kept_unplaced : (refs : List RefValue) (ms : List Mapped) (xs : List Mapping) → AllZip (IsUnplaced refs) ms xs
    → AllZip (IsUnplaced refs) (kept ms) (filter (λ x. not (is_partial (matched x))) xs)
unfolding kept
kept_unplaced refs [] [] h = tt
kept_unplaced refs [] (x ∷ xs) h = absurd h
kept_unplaced refs (m ∷ ms) [] h = absurd h
kept_unplaced refs (m ∷ ms) (x ∷ xs) h =
    kept_more refs m x ms xs (not (is_partial m)) refl (ap (λ l. not (is_partial_local l)) h.0.local) h.0 (kept_unplaced refs ms xs h.1)

-- each mapping with the index of its refspec in its own list
placed_in_lists : (refs : List RefValue) (count : ℕ) (ms : List Mapped) (xs : List Mapping) → AllZip (IsUnplaced refs) ms xs
    → AllZip (IsMapping refs count) ms (map (in_its_list count) xs)
placed_in_lists refs count [] [] h = tt
placed_in_lists refs count [] (x ∷ xs) h = absurd h
placed_in_lists refs count (m ∷ ms) [] h = absurd h
placed_in_lists refs count (m ∷ ms) (x ∷ xs) h = (
  record {
    remote = h.0.remote;
    local = h.0.local;
    place = ap (λ i. spec_place count (place_number i)) h.0.place;
  },
  placed_in_lists refs count ms xs h.1,
)

-- where all refspecs are explicit, each has its index in its own list already
explicit_alone : (specs : List Spec) (refs : List RefValue) (count : ℕ) → length specs ≤ count → (ms : List Mapped) (xs : List Mapping)
    → AllByRecursion (Good specs refs) ms → AllZip (IsUnplaced refs) ms xs → AllZip (IsMapping refs count) ms xs
explicit_alone specs refs count l [] [] g h = tt
explicit_alone specs refs count l [] (x ∷ xs) g h = absurd h
explicit_alone specs refs count l (m ∷ ms) [] g h = absurd h
explicit_alone specs refs count l (m ∷ ms) (x ∷ xs) g h = (
  record {
    remote = h.0.remote;
    local = h.0.local;
    place = h.0.place ∙ sym (rw (lt-ltb m.spec count (omega (arith, g.0.place))) refl);
  },
  explicit_alone specs refs count l ms xs g.1 h.1,
)

-- the first ones that stay after a validation
stay_unplaced : (specs : List Spec) (refs : List RefValue) (xs ys : List Mapping) (kept_ones : Vec Mapping Global)
    (notes : Vec Fix Global) → ys ≡ flagged xs (first_flags [] (map matched xs))
    → ValidatesAs matched specs ys (Ok (kept_ones, notes)) → AllZip (IsUnplaced refs) (repeated specs (value_names refs)) xs
    → AllZip (IsUnplaced refs) (kept (found_in specs refs)) kept_ones.items
stay_unplaced specs refs xs ys kept_ones notes e v h =
    let P : List Mapping → Type 0 = λ zs. AllZip (IsUnplaced refs) (kept (found_in specs refs)) zs in
    subst P (sym v.1) (kept_unplaced refs (found_in specs refs) ys (firsts_unplaced refs (repeated specs (value_names refs)) xs ys h e))

-- the result of a validation of the first ones, whatever the indices of the refspecs become then
maps_of_placed : (specs : List Spec) (count : ℕ) (refs : List RefValue) (xs ys : List Mapping) (kept_ones answer : Vec Mapping Global)
    (notes : Vec Fix Global) → ys ≡ flagged xs (first_flags [] (map matched xs))
    → ValidatesAs matched specs ys (Ok (kept_ones, notes)) → AllZip (IsUnplaced refs) (repeated specs (value_names refs)) xs
    → AllZip (IsMapping refs count) (kept (found_in specs refs)) answer.items → Maps specs count refs (Ok (answer, notes))
maps_of_placed specs count refs xs ys kept_ones answer notes e v h placed =
    let found = found_in specs refs in
    let bare = bare_of refs found ys (firsts_unplaced refs (repeated specs (value_names refs)) xs ys h e) in (
      sym (ap (conflicts specs) bare ∙ conflicts_of_bare specs found) ∙ v.0,
      placed,
      v.2 ∙ ap (fixes specs) bare ∙ fixes_of_bare specs found,
    )

-- each refspec has the index in its own list
pub maps_of_kept : (specs : List Spec) (count : ℕ) (refs : List RefValue) (xs ys : List Mapping) (kept_ones answer : Vec Mapping Global)
    (notes : Vec Fix Global) → ys ≡ flagged xs (first_flags [] (map matched xs))
    → ValidatesAs matched specs ys (Ok (kept_ones, notes)) → answer.items ≡ map (in_its_list count) kept_ones.items
    → AllZip (IsUnplaced refs) (repeated specs (value_names refs)) xs → Maps specs count refs (Ok (answer, notes))
maps_of_kept specs count refs xs ys kept_ones answer notes e v placed h =
    let Q : List Mapping → Type 0 = λ zs. AllZip (IsMapping refs count) (kept (found_in specs refs)) zs in
    maps_of_placed specs count refs xs ys kept_ones answer notes e v h
    (subst Q (sym placed) (placed_in_lists refs count (kept (found_in specs refs)) kept_ones.items
    (stay_unplaced specs refs xs ys kept_ones notes e v h)))

-- all refspecs are explicit
pub maps_of_explicit : MappingsHaveOrigins → (specs : List Spec) (count : ℕ) (refs : List RefValue) (xs ys : List Mapping)
    (kept_ones : Vec Mapping Global) (notes : Vec Fix Global) → ys ≡ flagged xs (first_flags [] (map matched xs))
    → ValidatesAs matched specs ys (Ok (kept_ones, notes)) → length specs ≤ count
    → AllZip (IsUnplaced refs) (repeated specs (value_names refs)) xs → Maps specs count refs (Ok (kept_ones, notes))
maps_of_explicit law specs count refs xs ys kept_ones notes e v l h =
    maps_of_placed specs count refs xs ys kept_ones kept_ones notes e v h
    (explicit_alone specs refs count l (kept (found_in specs refs)) kept_ones.items (kept_are_good law specs refs)
    (stay_unplaced specs refs xs ys kept_ones notes e v h))

-- the conflicts are the error
pub maps_of_conflicts : (specs : List Spec) (count : ℕ) (refs : List RefValue) (xs ys : List Mapping) (error : ValidationError)
    → ys ≡ flagged xs (first_flags [] (map matched xs)) → ValidatesAs matched specs ys (Err error)
    → AllZip (IsUnplaced refs) (repeated specs (value_names refs)) xs → Maps specs count refs (Err (MappingValidation error))
maps_of_conflicts specs count refs xs ys error e v h =
    let found = found_in specs refs in
    let bare = bare_of refs found ys (firsts_unplaced refs (repeated specs (value_names refs)) xs ys h e) in
    let same : conflicts specs (map matched ys) ≡ conflicts specs found = ap (conflicts specs) bare ∙ conflicts_of_bare specs found in
    (λ none. v.0 (same ∙ none), v.1 ∙ same)

-- a result for all mappings is a result for the refs
pub maps_of_unplaced : (specs known reported : List Spec) (count : ℕ) (refs : List RefValue) (xs : List Mapping)
    (r : Result (Vec Mapping Global × Vec Fix Global) Error) → known ≡ specs → reported ≡ specs
    → AllZip (IsUnplaced refs) (repeated known (value_names refs)) xs
    → ((rs : List RefValue) → AllZip (IsUnplaced rs) (repeated reported (value_names rs)) xs → Maps reported count rs r)
    → Maps specs count refs r
maps_of_unplaced specs known reported count refs xs r e d made answers =
    let P : List Spec → Type 0 = λ s. AllZip (IsUnplaced refs) (repeated s (value_names refs)) xs in
    let Q : List Spec → Type 0 = λ s. Maps s count refs r in
    subst Q d (answers refs (subst P (e ∙ sym d) made))

-- a result for mappings from all places is a result for the refs
pub maps_of_places : (specs known reported : List Spec) (count : ℕ) (refs : List RefValue) (ps : List Place) (xs : List Mapping)
    (r : Result (Vec Mapping Global × Vec Fix Global) Error) → known ≡ specs → reported ≡ specs
    → map place_value ps ≡ map place_of (repeated known (value_names refs))
    → AllByRecursion (FollowsFromPlace known (value_names refs)) (repeated known (value_names refs))
    → AllZip (IsMade refs known) ps xs
    → ((rs : List RefValue) → AllZip (IsUnplaced rs) (repeated reported (value_names rs)) xs → Maps reported count rs r)
    → Maps specs count refs r
maps_of_places specs known reported count refs ps xs r e d places follows made answers =
    maps_of_unplaced specs known reported count refs xs r e d
    (unplaced_of_places known refs ps (repeated known (value_names refs)) xs places follows made) answers
