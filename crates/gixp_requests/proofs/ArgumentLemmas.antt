-- The texts of features, each after a blank, or joined by blanks.
use Rattle.std.proofs.Common.{◌≡◌, ℕ, ◌+◌, Bool, true, false, List, [], ◌∷◌, ◌++◌, length, map, refl, sym, ap, ◌∙◌, append_assoc, arith}
use Rattle.std.specs.Prelude.{◌==◌, filter}
use Rattle.std.proofs.lemmas.Bool.Decides.{nat_tests}
use Rattle.std.proofs.lemmas.List.{map-append, append-nil}
use Rattle.std.proofs.lemmas.List.Elements.{filter-append}
use Rattle.gixp_requests.specs.Feature.{FeatureValue, feature_text}
use Rattle.gixp_requests.specs.Arguments.{is_on, texts_on, spaced, after_blank}

pub spaced-append : (xs ys : List (List ℕ)) → spaced (xs ++ ys) ≡ spaced xs ++ spaced ys
spaced-append [] ys = refl
spaced-append (x ∷ xs) ys = ap (λ z. 32 ∷ x ++ z) (spaced-append xs ys) ∙ ap (λ z. 32 ∷ z) (sym (append_assoc x (spaced xs) (spaced ys)))

-- the features of the first want, each after a blank
abbrev pub spaced_on : Bool → Bool → List FeatureValue → List ℕ
spaced_on include_tag deepen_relative features = spaced (texts_on include_tag deepen_relative features)

pub spaced_on-append : (include_tag deepen_relative : Bool) (xs ys : List FeatureValue)
    → spaced_on include_tag deepen_relative (xs ++ ys) ≡ spaced_on include_tag deepen_relative xs
    ++ spaced_on include_tag deepen_relative ys
spaced_on-append i d xs ys =
    ap (λ z. spaced (map feature_text z)) (filter-append (is_on i d) xs ys)
    ∙ ap spaced (map-append feature_text (filter (is_on i d) xs) (filter (is_on i d) ys))
    ∙ spaced-append (texts_on i d xs) (texts_on i d ys)

-- for at least one text, a blank and the texts joined by blanks are the texts each after a blank
pub spaced_joined : (x : List ℕ) (xs : List (List ℕ)) → spaced (x ∷ xs) ≡ after_blank (x ∷ xs)
spaced_joined x [] = ap (λ z. 32 ∷ z) (append-nil x)
spaced_joined x (y ∷ ys) = ap (λ z. 32 ∷ x ++ z) (spaced_joined y ys)

-- a blank alone, where there is no text
pub blank_alone : (xs : List (List ℕ)) (text : List ℕ) (n : ℕ) → n ≡ length text → true ≡ (n == 0) → text ≡ spaced xs
    → 32 ∷ [] ≡ after_blank xs
blank_alone [] text n len h e = refl
blank_alone (x ∷ xs) text n len h e =
    let more : n ≡ length (x ++ spaced xs) + 1 = len ∙ ap length e ∙ omega arith in
    grind (arith, nat_tests)

-- otherwise each text follows its blank
pub blanks_joined : (xs : List (List ℕ)) (text : List ℕ) (n : ℕ) → n ≡ length text → false ≡ (n == 0) → text ≡ spaced xs
    → text ≡ after_blank xs
blanks_joined [] text n len h e =
    let none : n ≡ 0 = len ∙ ap length e in
    let t : (n == 0) ≡ true = ap (λ m. m == 0) none in
    absurd (cc)
blanks_joined (x ∷ xs) text n len h e = e ∙ spaced_joined x xs
