-- Mappings have two sources exactly where one has another source than the first.
use Rattle.std.proofs.Common.{◌≡◌, Bool, true, false, List, [], ◌∷◌, ap, sym, ◌∙◌, refl, inl, inr}
use Rattle.std.specs.Prelude.{◌||◌, not}
use Rattle.std.specs.List.{list_any}
use Rattle.std.proofs.lemmas.Bool.{cases_Bool, or_parts, or_left, or_right, not-false}
use Rattle.std.proofs.lemmas.Slice.Eq.{bytes_eq-Decides}
use Rattle.gixp_matching.specs.Mappings.{Source, FullName, ObjectId, Mapped, source_eq}
use Rattle.gixp_matching.specs.Validation.{differ}
use Rattle.gixp_matching.proofs.KeyLemmas.{same_source_is}

-- the mapping has another source
abbrev is_other : Source → Mapped → Bool
is_other source m = not (source_eq source m.source)

source_eq-same : (a : Source) → source_eq a a ≡ true
source_eq-same (FullName a) = (bytes_eq-Decides a a).1 refl
source_eq-same (ObjectId a) = (bytes_eq-Decides a a).1 refl

-- where no mapping has another source than s, none differs from any other
none_differs : (s : Source) (ms all : List Mapped) → list_any (is_other s) ms ≡ false → list_any (is_other s) all ≡ false
    → list_any (λ m. list_any (is_other m.source) all) ms ≡ false
none_differs s [] all h others = refl
none_differs s (m ∷ ms) all h others =
    let both = or_parts (is_other s m) (list_any (is_other s) ms) h in
    let same : s ≡ m.source = same_source_is s m.source (not-false _ both.0) in
    ap (λ b. b || list_any (λ n. list_any (is_other n.source) all) ms) (ap (λ t. list_any (is_other t) all) (sym same) ∙ others)
    ∙ none_differs s ms all both.1 others

-- comparing with the first is enough
pub differ-first : (m : Mapped) (ms : List Mapped) → list_any (is_other m.source) ms ≡ differ (m ∷ ms)
differ-first m ms = elim (cases_Bool (list_any (is_other m.source) ms)) [
  | inl t ↦ t ∙ sym (or_left _ _ (or_right (is_other m.source m) _ t))
  | inr f ↦ (
      let none : list_any (is_other m.source) (m ∷ ms) ≡ false =
      ap (λ b. not b || list_any (is_other m.source) ms) (source_eq-same m.source) ∙ f in
      f ∙ sym (none_differs m.source (m ∷ ms) (m ∷ ms) none none))
]
