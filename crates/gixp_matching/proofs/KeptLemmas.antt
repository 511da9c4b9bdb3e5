-- Where no local name is partial, no mapping is removed.
use Rattle.std.proofs.Common.{◌≡◌, Bool, false, List, [], ◌∷◌, map, ap, sym, ◌∙◌, refl}
use Rattle.std.specs.Prelude.{filter, not}
use Rattle.std.specs.List.{list_any}
use Rattle.std.proofs.lemmas.Bool.{cond-true, cond-false, or_parts}
use Rattle.gixp_refspec.specs.Spec.{Spec}
use Rattle.gixp_matching.specs.Mappings.{Mapped}
use Rattle.gixp_matching.specs.Validation.{is_partial, removed_at, fixes, kept}
use Rattle.gixp_matching.proofs.ListLemmas.{filter_of_map}
use Rattle.gixp_packetline.proofs.ListLemmas.{any_of_map}

pub none_kept : (p : Mapped → Bool) (ms : List Mapped) → list_any p ms ≡ false → filter p ms ≡ []
none_kept p [] h = refl
none_kept p (m ∷ ms) h = let both = or_parts (p m) (list_any p ms) h in cond-false _ _ _ both.0 ∙ none_kept p ms both.1

whole_of : {A : Type 0} (h : A → Mapped) (xs : List A) (b : Bool) → b ≡ list_any (λ x. is_partial (h x)) xs → b ≡ false
    → list_any is_partial (map h xs) ≡ false
whole_of h xs b is e = any_of_map is_partial h xs ∙ sym is ∙ e

-- without partial local names there are no fixes
pub no_fixes : {A : Type 0} (specs : List Spec) (h : A → Mapped) (xs : List A) (b : Bool) → b ≡ list_any (λ x. is_partial (h x)) xs
    → b ≡ false → [] ≡ fixes specs (map h xs)
unfolding fixes
no_fixes specs h xs b is e = ap (map (removed_at specs)) (sym (none_kept is_partial (map h xs) (whole_of h xs b is e)))

pub all_kept : {A : Type 0} (p : A → Bool) (xs : List A) → list_any p xs ≡ false → xs ≡ filter (λ x. not (p x)) xs
all_kept p [] h = refl
all_kept p (x ∷ xs) h =
    let both = or_parts (p x) (list_any p xs) h in
    ap (λ r. x ∷ r) (all_kept p xs both.1) ∙ sym (cond-true _ _ _ (ap not both.0))

-- the mappings that are kept, as values
pub kept_values : {A : Type 0} (h : A → Mapped) (xs stays : List A) → stays ≡ filter (λ x. not (is_partial (h x))) xs
    → map h stays ≡ kept (map h xs)
unfolding kept
kept_values h xs stays e = ap (map h) e ∙ sym (filter_of_map (λ m. not (is_partial m)) h xs)
