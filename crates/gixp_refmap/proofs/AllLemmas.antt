-- Leaving out refs that no prefix covers.
use Rattle.std.proofs.Common.{◌≡◌, ℕ, ◌+◌, ◌-◌, ◌<◌, nat_lt, arith, true, false, List, [], ◌∷◌, Option, Some, None, inl, inr, length, map, ap, sym, ◌∙◌, refl, subst, Vec, Result, Ok, Err}
use Rattle.std.specs.Prelude.{find, not, IfOk, IsSome}
use Rattle.std.specs.List.{AllZip, AllByRecursion}
use Rattle.std.specs.declared.alloc.Global.{Global}
use Rattle.std.proofs.lemmas.Bool.{cases_Bool, false≢true}
use Rattle.std.proofs.lemmas.Slice.Eq.{bytes_eq-Decides}
use Rattle.std.proofs.lemmas.Bool.Decides.{nat_tests}
use Rattle.std.proofs.lemmas.List.{length-append, length-map}
use Rattle.gixp_refs.specs.Ref.{RefValue}
use Rattle.gixp_matching.specs.declared.match_group.validate.Fix.{Fix}
use Rattle.gixp_refspec.specs.declared.spec.RefSpec.{RefSpec}
use Rattle.gixp_refspec.specs.Spec.{Spec}
use Rattle.gixp_refspec.specs.RefSpec.{owned_value_of}
use Rattle.gixp_refspec.specs.Matching.{is_covered}
use Rattle.gixp_matching.specs.Mappings.{Source as SourceValue, FullName, ObjectId as IdOf, Mapped}
use Rattle.gixp_matching.specs.Validation.{kept, is_partial}
use Rattle.gixp_matching.specs.RefspecLaws.{MappingsHaveOrigins}
use Rattle.gixp_matching.specs.Leaving.{LeavesOut, all_prefixes, without_item, KeepsAnswers}
use Rattle.gixp_refmap.specs.declared.refmap.mapping.Mapping.{Mapping}
use Rattle.gixp_refmap.specs.declared.refmap.mapping.Source.{Source}
use Rattle.gixp_refmap.specs.declared.refmap.mapping.Source.TheVariants.{ObjectId as the_id, Ref as the_ref}
use Rattle.gixp_refmap.specs.declared.refmap.mapping.SpecIndex.{SpecIndex}
use Rattle.gixp_refmap.specs.declared.refmap.init.Error.{Error}
use Rattle.gixp_refmap.specs.declared.refmap.init.Error.TheVariants.{UnknownObjectFormat, MappingValidation, ListRefs, Memory}
use Rattle.gixp_refmap.specs.Mapping.{value_name, value_names, has_name, found_in, spec_place, spec_at, joined_specs, IsRemote, IsMapping, Maps, LeavesOutRefs, HoldsOfAll}
use Rattle.gixp_refmap.proofs.ItemLemmas.{some_within}
use Rattle.gixp_refmap.proofs.BackedLemmas.{all_filter}
use Rattle.gixp_refmap.proofs.FoundLemmas.{ItemIsFirst, Good, found_are_good}

-- names of refs that were left out are left out
leaves_names : (prefixes : List (List ℕ)) (refs all : List RefValue) → LeavesOutRefs prefixes refs all
    → LeavesOut prefixes (value_names refs) (value_names all)
leaves_names prefixes refs [] h = ap value_names h
leaves_names prefixes refs (r ∷ all) (inl h) = inl (h.0, leaves_names prefixes refs all h.1)
leaves_names prefixes refs (r ∷ all) (inr h) = inr (value_names h.0, ap value_names h.1, leaves_names prefixes h.0 all h.2)

-- a ref that isn't covered has no covered name
other_name : (prefixes : List (List ℕ)) (r : RefValue) (name : List ℕ) → is_covered prefixes (value_name r) ≡ false
    → is_covered prefixes name ≡ true → has_name name r ≡ false
other_name prefixes r name out covered = elim (cases_Bool (has_name name r)) [
  | inl t ↦ absurd (false≢true (sym out ∙ ap (is_covered prefixes) ((bytes_eq-Decides (value_name r) name).0 t) ∙ covered))
  | inr f ↦ f
]

-- the first ref with a covered name is the first of all
same_first : (prefixes : List (List ℕ)) (refs all : List RefValue) (name : List ℕ) → LeavesOutRefs prefixes refs all
    → is_covered prefixes name ≡ true → find (has_name name) refs ≡ find (has_name name) all
same_first prefixes refs [] name h covered = ap (find (has_name name)) h
same_first prefixes refs (r ∷ all) name (inl h) covered =
    let f = other_name prefixes r name h.0 covered in
    rw f (same_first prefixes refs all name h.1 covered)
same_first prefixes refs (r ∷ all) name (inr h) covered =
    ap (find (has_name name)) h.1 ∙ elim (cases_Bool (has_name name r)) [
      | inl t ↦ rw t refl
      | inr f ↦ rw f (same_first prefixes h.0 all name h.2 covered)
    ]

-- fewer refs and all refs have the same source
same_remote : (specs : List Spec) (refs all : List RefValue) (s : SourceValue) (i j : Option ℕ) (x : Source)
    → ((name : List ℕ) → is_covered (all_prefixes specs) name ≡ true → find (has_name name) refs ≡ find (has_name name) all)
    → ItemIsFirst specs refs i s → ItemIsFirst specs all j s → IsRemote refs i s x → IsRemote all j s x
same_remote specs refs all (FullName name) None j x same a b h = absurd a
same_remote specs refs all (FullName name) (Some i) None x same a b h = absurd b
same_remote specs refs all (FullName name) (Some i) (Some j) (the_id id) same a b h = absurd h
same_remote specs refs all (FullName name) (Some i) (Some j) (the_ref r) same a b h = b.1 ∙ sym b.2 ∙ sym (same name a.3) ∙ a.2
    ∙ sym a.1 ∙ h
same_remote specs refs all (IdOf bytes) (Some i) j x same a b h = absurd a
same_remote specs refs all (IdOf bytes) None (Some j) x same a b h = absurd b
same_remote specs refs all (IdOf bytes) None None (the_id id) same a b h = h
same_remote specs refs all (IdOf bytes) None None (the_ref r) same a b h = absurd h

-- fewer refs and all refs have the same mapping
same_mapping : (specs : List Spec) (refs all : List RefValue) (count : ℕ) (m n : Mapped) (x : Mapping)
    → ((name : List ℕ) → is_covered (all_prefixes specs) name ≡ true → find (has_name name) refs ≡ find (has_name name) all)
    → without_item m ≡ without_item n → Good specs refs m → Good specs all n → IsMapping refs count m x → IsMapping all count n x
same_mapping specs refs all count m n x same e a b h =
    let source : m.source ≡ n.source = ap (λ (o : Mapped). o.source) e in
    let local : m.local ≡ n.local = ap (λ (o : Mapped). o.local) e in
    let spec : m.spec ≡ n.spec = ap (λ (o : Mapped). o.spec) e in
    let I : SourceValue → Type 0 = λ s. ItemIsFirst specs refs m.item s in
    let R : SourceValue → Type 0 = λ s. IsRemote refs m.item s x.remote in
    record {
      remote = same_remote specs refs all n.source m.item n.item x.remote same (subst I source a.item) b.item (subst R source h.remote);
      local = h.local ∙ local;
      place = h.place ∙ ap (spec_place count) spec;
    }

-- fewer refs and all refs have the same mappings
same_mappings : (specs : List Spec) (refs all : List RefValue) (count : ℕ)
    → ((name : List ℕ) → is_covered (all_prefixes specs) name ≡ true → find (has_name name) refs ≡ find (has_name name) all)
    → (ms ns : List Mapped) (xs : List Mapping) → map without_item ms ≡ map without_item ns → AllByRecursion (Good specs refs) ms
    → AllByRecursion (Good specs all) ns
    → AllZip (IsMapping refs count) ms xs → AllZip (IsMapping all count) ns xs
same_mappings specs refs all count same [] [] xs e a b h = h
same_mappings specs refs all count same [] (n ∷ ns) xs e a b h = cc
same_mappings specs refs all count same (m ∷ ms) [] xs e a b h = cc
same_mappings specs refs all count same (m ∷ ms) (n ∷ ns) [] e a b h = h
same_mappings specs refs all count same (m ∷ ms) (n ∷ ns) (x ∷ xs) e a b h =
    let head : without_item m ≡ without_item n = cc in
    let tail : map without_item ms ≡ map without_item ns = cc in
    (same_mapping specs refs all count m n x same head a.0 b.0 h.0, same_mappings specs refs all count same ms ns xs tail a.1 b.1 h.1)

-- the mappings that stay have a covered first ref or an id
pub kept_are_good : MappingsHaveOrigins → (specs : List Spec) (refs : List RefValue)
    → AllByRecursion (Good specs refs) (kept (found_in specs refs))
unfolding kept
kept_are_good law specs refs = all_filter (Good specs refs) (λ m. not (is_partial m)) (found_in specs refs) (found_are_good law specs refs)

-- a result for fewer refs is one for all
pub maps_all : (keeps : KeepsAnswers) (law : MappingsHaveOrigins) (specs : List Spec) (count : ℕ) (refs : List RefValue)
    (r : Result (Vec Mapping Global × Vec Fix Global) Error)
    → Maps specs count refs r → HoldsOfAll specs refs (λ all. Maps specs count all r)
maps_all keeps law specs count refs (Ok found) h prefixes all covers out =
    let same = keeps specs (value_names refs) prefixes (value_names all) covers (leaves_names prefixes refs all out) in (
      sym same.same_conflicts ∙ h.0,
      same_mappings specs refs all count (λ name c. same_first prefixes refs all name out (covers name c)) (kept (found_in specs refs))
          (kept (found_in specs all)) found.0.items
          same.same_kept (kept_are_good law specs refs) (kept_are_good law specs all) h.1,
      h.2 ∙ same.same_fixes,
    )
maps_all keeps law specs count refs (Err (MappingValidation e)) h prefixes all covers out =
    let same = keeps specs (value_names refs) prefixes (value_names all) covers (leaves_names prefixes refs all out) in
    (λ none. h.0 (same.same_conflicts ∙ none), h.1 ∙ same.same_conflicts)
maps_all keeps law specs count refs (Err Memory) h prefixes all covers out = tt
maps_all keeps law specs count refs (Err (UnknownObjectFormat f)) h prefixes all covers out = h
maps_all keeps law specs count refs (Err (ListRefs e)) h prefixes all covers out = h

-- a refspec of both lists has its index in its own list
spec_is_there : (explicit extra : List RefSpec) (i : ℕ) → i < length (joined_specs explicit extra)
    → IsSome (spec_at (spec_place (length explicit) i) explicit extra)
spec_is_there explicit extra i l = elim (cases_Bool (nat_lt i (length explicit))) [
  | inl t ↦ rw t (some_within explicit i (grind (arith, nat_tests)))
  | inr f ↦ rw f (some_within extra (i - length explicit) (
      let n : length (joined_specs explicit extra) ≡ length explicit + length extra =
      length-append (map owned_value_of explicit) (map owned_value_of extra) ∙ ap (λ k. k + length (map owned_value_of extra))
      (length-map explicit owned_value_of) ∙ ap (λ k. length explicit + k) (length-map extra owned_value_of) in
      grind (arith, nat_tests)))
]

-- the refspec of each mapping exists
specs_are_there : (explicit extra : List RefSpec) (refs : List RefValue) (ms : List Mapped) (xs : List Mapping)
    → AllByRecursion (Good (joined_specs explicit extra) refs) ms
    → AllZip (IsMapping refs (length explicit)) ms xs → AllByRecursion (λ x. IsSome (spec_at x.spec_index explicit extra)) xs
specs_are_there explicit extra refs [] [] a h = tt
specs_are_there explicit extra refs [] (x ∷ xs) a h = absurd h
specs_are_there explicit extra refs (m ∷ ms) [] a h = absurd h
specs_are_there explicit extra refs (m ∷ ms) (x ∷ xs) a h =
    let P : SpecIndex → Type 0 = λ i. IsSome (spec_at i explicit extra) in
    (subst P (sym h.0.place) (spec_is_there explicit extra m.spec a.0.place), specs_are_there explicit extra refs ms xs a.1 h.1)

-- the refspec of each mapping of a result exists
pub answer_is_there : MappingsHaveOrigins → (explicit extra : List RefSpec) (refs : List RefValue)
    (r : Result (Vec Mapping Global × Vec Fix Global) Error) → Maps (joined_specs explicit extra) (length explicit) refs r
    → IfOk r (λ found. AllByRecursion (λ x. IsSome (spec_at x.spec_index explicit extra)) found.0.items)
answer_is_there law explicit extra refs (Ok found) h =
    let specs = joined_specs explicit extra in
    specs_are_there explicit extra refs (kept (found_in specs refs)) found.0.items (kept_are_good law specs refs) h.1
answer_is_there law explicit extra refs (Err e) h = tt
