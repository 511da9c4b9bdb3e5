-- Refspecs that name objects by their ids.
use Rattle.std.proofs.Common.{◌≡◌, ◌∙◌, ℕ, ap, sym, refl, Bool, true, false, List, [], ◌∷◌}
use Rattle.std.specs.Prelude.{map, ◌&&◌, not, ◌==◌, length}
use Rattle.std.specs.List.{list_all}
use Rattle.std.proofs.lemmas.List.{length-map}
use Rattle.gixp_refspec.specs.declared.spec.RefSpec.{RefSpec}
use Rattle.gixp_refspec.specs.RefSpec.{owned_value_of}
use Rattle.gixp_refspec.specs.ById.{is_by_id, name_ids}

all_mapped : (specs : List RefSpec) → list_all (λ spec. is_by_id (owned_value_of spec)) specs ≡ list_all is_by_id (map owned_value_of specs)
all_mapped [] = refl
all_mapped (spec ∷ specs) = ap (λ (x : Bool). is_by_id (owned_value_of spec) && x) (all_mapped specs)

differ : (b : Bool) → b ≡ true → b ≡ false → ⊥
differ b e f = cc

both_true : (a b x : Bool) → a ≡ false → b ≡ true → (not a && b && x) ≡ x
both_true true b x e f = absurd (differ true refl e)
both_true false true x e f = refl
both_true false false x e f = absurd (differ false f refl)

-- whether no refspec names a ref, by three tests
pub ids_by : (explicit extra : List RefSpec) (is_empty no_extra all : Bool) → is_empty ≡ (length explicit == 0)
    → no_extra ≡ (length extra == 0) → is_empty ≡ false → no_extra ≡ true
    → all ≡ list_all (λ spec. is_by_id (owned_value_of spec)) explicit
    → all ≡ name_ids (map owned_value_of explicit) (map owned_value_of extra)
ids_by explicit extra is_empty no_extra all e n f t a =
    a ∙ (all_mapped explicit
    ∙ sym (both_true (length (map owned_value_of explicit) == 0) (length (map owned_value_of extra) == 0) _
    (ap (λ (x : ℕ). x == 0) (length-map explicit owned_value_of) ∙ (sym e ∙ f))
    (ap (λ (x : ℕ). x == 0) (length-map extra owned_value_of) ∙ (sym n ∙ t))))
