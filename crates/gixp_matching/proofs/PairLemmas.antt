-- The mapping of one refspec and one ref, and its place, by cases.
use Rattle.std.proofs.Common.{◌≡◌, ℕ, Bool, true, false, cond, List, [], ◌∷◌, Option, Some, None, map, ap, sym, ◌∙◌, refl}
use Rattle.std.specs.Prelude.{◌||◌, ◌&&◌, is_some, option_to_list, option_map}
use Rattle.std.specs.Option.{option_copied}
use Rattle.std.specs.Borrow.{Bor}
use Rattle.std.proofs.lemmas.Bool.{false≢true}
use Rattle.gixp_refspec.specs.declared.needle.Needle.{Needle}
use Rattle.gixp_refspec.specs.declared.spec.Sign.{Sign}
use Rattle.gixp_refspec.specs.Spec.{Spec, spec, is_negative}
use Rattle.gixp_refspec.specs.Matching.{middle_of, local_of}
use Rattle.gixp_refspec.specs.Needle.{IsNeedle, middle_with}
use Rattle.gixp_matching.specs.Mappings.{FullName, Mapped, mapped, is_excluded, excludes, pair}
use Rattle.gixp_matching.specs.Places.{place_of, pair_places}
use Rattle.gixp_matching.proofs.NeedleLemmas.{middle_with-needle, found_is}

-- the mapping of a refspec and a name: none where b holds, else one for the middle
abbrev made : (s : ℕ × Spec) (name : List ℕ) (i : ℕ) (b : Bool) (middle : Option (List ℕ)) → List Mapped
made s name i b middle = cond b [] (option_to_list (option_map (λ m. mapped (Some i) (FullName name) (local_of s.1 m) s.0) middle))

none_made : (s : ℕ × Spec) (name : List ℕ) (i : ℕ) (b : Bool) → made s name i b None ≡ []
none_made s name i true = refl
none_made s name i false = refl

-- without a match there is no mapping
pub unmapped_none : (specs : List Spec) (s : ℕ × Spec) (ref : ℕ × List ℕ) → middle_of s.1.source ref.1 ≡ None → [] ≡ pair specs s ref
unfolding pair
unmapped_none specs s ref none =
    sym (ap (made s ref.1 ref.0 (is_negative s.1.sign || is_excluded specs ref.1)) none
    ∙ none_made s ref.1 ref.0 (is_negative s.1.sign || is_excluded specs ref.1))

-- a negative refspec has no mapping
pub unmapped_negative : (specs : List Spec) (s : ℕ × Spec) (ref : ℕ × List ℕ) → is_negative s.1.sign ≡ true → [] ≡ pair specs s ref
unfolding pair
unmapped_negative specs s ref negative =
    sym (ap (λ b. made s ref.1 ref.0 (b || is_excluded specs ref.1) (middle_of s.1.source ref.1)) negative)

-- a name that a negative refspec matches has no mapping
pub unmapped_excluded : (specs : List Spec) (s : ℕ × Spec) (ref : ℕ × List ℕ) → is_excluded specs ref.1 ≡ true → [] ≡ pair specs s ref
unfolding pair
unmapped_excluded specs s ref out =
    sym (ap (λ b. made s ref.1 ref.0 b (middle_of s.1.source ref.1))
    (ap (λ b. is_negative s.1.sign || b) out ∙ or_true (is_negative s.1.sign)))
  where
    or_true : (b : Bool) → (b || true) ≡ true
    or_true true = refl
    or_true false = refl

-- a positive refspec matches, and no negative one does
pub mapped_some : (specs : List Spec) (s : ℕ × Spec) (ref : ℕ × List ℕ) (m : List ℕ) → middle_of s.1.source ref.1 ≡ Some m
    → is_negative s.1.sign ≡ false → is_excluded specs ref.1 ≡ false
    → mapped (Some ref.0) (FullName ref.1) (local_of s.1 m) s.0 ∷ [] ≡ pair specs s ref
unfolding pair
mapped_some specs s ref m some positive kept =
    sym (ap (made s ref.1 ref.0 (is_negative s.1.sign || is_excluded specs ref.1)) some
    ∙ ap (λ b. made s ref.1 ref.0 (b || is_excluded specs ref.1) (Some m)) positive ∙ ap (λ b. made s ref.1 ref.0 b (Some m)) kept)

-- where the source doesn't match there is no place
pub pair_unmatched : (specs : List Spec) (s : ℕ × Spec) (name : List ℕ) (i : ℕ) (needle : Needle) (r : Option (Bor (List ℕ)))
    → IsNeedle s.1.source needle
    → option_copied r ≡ middle_with needle name → is_some r ≡ false → [] ≡ pair_places specs s (i, name)
pair_unmatched specs s name i needle (Some m) made_of was is = absurd (false≢true (sym is))
pair_unmatched specs s name i needle None made_of was is =
    ap (map place_of) (unmapped_none specs s (i, name) (found_is s.1.source name needle None None made_of was refl))

-- where the source matches and no negative refspec does, there is a place
pub pair_matched : (specs : List Spec) (s : ℕ × Spec) (name : List ℕ) (i : ℕ) (needle : Needle) (r : Option (Bor (List ℕ)))
    → IsNeedle s.1.source needle
    → option_copied r ≡ middle_with needle name → is_some r ≡ true → is_negative s.1.sign ≡ false → is_excluded specs name ≡ false
    → (Some i, s.0) ∷ [] ≡ pair_places specs s (i, name)
pair_matched specs s name i needle None made_of was is positive kept = absurd (false≢true is)
pair_matched specs s name i needle (Some m) made_of was is positive kept =
    let some = found_is s.1.source name needle (Some m.now) (Some m.now) made_of was refl in
    ap (map place_of) (mapped_some specs s (i, name) m.now some positive kept)

copied_some : (r : Option (Bor (List ℕ))) → is_some r ≡ is_some (option_copied r)
copied_some None = refl
copied_some (Some x) = refl

-- a negative refspec excludes the names that its needle matches
pub excludes_is : (sign : Sign) (source name : List ℕ) (destination : Option (List ℕ)) (needle : Needle) (r : Option (Bor (List ℕ)))
    (b : Bool) → IsNeedle source needle
    → option_copied r ≡ middle_with needle name → b ≡ is_some r → is_negative sign ≡ true → b ≡ excludes name (spec sign source destination)
excludes_is sign source name destination needle r b made_of was is negative =
    is ∙ copied_some r ∙ ap is_some (was ∙ middle_with-needle source name needle made_of)
    ∙ ap (λ n. n && is_some (middle_of source name)) (sym negative)

-- without a match there is no place
pub pair_none : (specs : List Spec) (s : ℕ × Spec) (ref : ℕ × List ℕ) → middle_of s.1.source ref.1 ≡ None
    → [] ≡ pair_places specs s ref
pair_none specs s ref none = ap (map place_of) (unmapped_none specs s ref none)

-- a negative refspec has no place
pub pair_negative : (specs : List Spec) (s : ℕ × Spec) (ref : ℕ × List ℕ) → is_negative s.1.sign ≡ true → [] ≡ pair_places specs s ref
pair_negative specs s ref negative = ap (map place_of) (unmapped_negative specs s ref negative)

-- a name that a negative refspec matches has no place
pub pair_excluded : (specs : List Spec) (s : ℕ × Spec) (ref : ℕ × List ℕ) → is_excluded specs ref.1 ≡ true → [] ≡ pair_places specs s ref
pair_excluded specs s ref out = ap (map place_of) (unmapped_excluded specs s ref out)
