-- Each name that a refspec matches begins with one of its prefixes.
use Rattle.std.proofs.Common.{◌≡◌, ℕ, Bool, true, false, List, [], ◌∷◌, ◌++◌, nat_eq, Option, Some, None, Result, ap, subst, sym, ◌∙◌, refl, inl, inr}
use Rattle.std.specs.Prelude.{is_some}
use Rattle.std.specs.List.{list_any, starts_with}
use Rattle.std.specs.Str.{bytes_eq}
use Rattle.std.proofs.lemmas.Bool.{or_cases, or_right, or_left, cond-false, false≢true}
use Rattle.std.proofs.lemmas.Bool.Decides.{Decides-eqb}
use Rattle.std.proofs.lemmas.List.{append-nil}
use Rattle.std.proofs.lemmas.List.Folds.{list_any-append}
use Rattle.std.proofs.lemmas.Slice.Eq.{starts_is, bytes_eq-Decides}
use Rattle.gixp_refspec.specs.Spec.{Spec, is_negative}
use Rattle.gixp_refspec.specs.Matching.{Kind, Id, Pattern, Exact, Short, kind_of, middle_by, middle_of, where_true, between, before_star, after_star, candidates, prefixes_by, prefixes_of, matches, is_covered}
use Rattle.std.specs.Borrow.{Bor}
use Rattle.std.specs.declared.alloc.AllocError.{AllocError}
use Rattle.gixp_refspec.specs.declared.needle.Needle.TheVariants.{Short as the_short}
use Rattle.gixp_refspec.specs.Needle.{IsNeedle}
use Rattle.gixp_refspec.specs.Texts.{AddsSome}
use Rattle.gixp_refspec.proofs.MatchLemmas.{between_some}

-- an element that passes a test passes a weaker one
pub any_weaker : {A : Type 0} (p q : A → Bool) → ((x : A) → p x ≡ true → q x ≡ true) → (xs : List A) → list_any p xs ≡ true
    → list_any q xs ≡ true
any_weaker p q h [] t = t
any_weaker p q h (x ∷ xs) t = elim (or_cases (p x) (list_any p xs) t) [
  | inl here ↦ or_left _ _ (h x here)
  | inr later ↦ or_right _ _ (any_weaker p q h xs later)
]

-- a name that is front and rest begins with front
starts : (name front rest : List ℕ) → name ≡ front ++ rest → starts_with nat_eq name front ≡ true
starts name front rest e = (starts_is Decides-eqb name front (starts_with nat_eq name front) refl).1 rest e

starts_itself : (name text : List ℕ) → bytes_eq name text ≡ true → starts_with nat_eq name text ≡ true
starts_itself name text h = starts name text [] ((bytes_eq-Decides name text).0 h ∙ sym (append-nil text))

-- there is a middle only where the test holds
where_is_some : (b : Bool) → is_some (where_true b) ≡ true → b ≡ true
where_is_some true h = refl
where_is_some false h = h

-- a name that has a middle begins with front
between_starts : (front back name : List ℕ) (found : Option (List ℕ)) → between front back name ≡ found → is_some found ≡ true
    → starts_with nat_eq name front ≡ true
between_starts front back name None e h = absurd (false≢true h)
between_starts front back name (Some middle) e h = starts name front (middle ++ back) (between_some front back name middle e)

-- each name that a source matches is covered, by the kind of the source
covered_by : (kind : Kind) (source name : List ℕ) → is_some (middle_by kind source name) ≡ true
    → is_covered (prefixes_by kind source) name ≡ true
covered_by Id source name h = h
covered_by Pattern source name h = or_left _ _ (between_starts (before_star source) (after_star source) name _ refl h)
covered_by Exact source name h = or_left _ _ (starts_itself name source (where_is_some _ h))
covered_by Short source name h = any_weaker (λ candidate. bytes_eq name candidate) (λ prefix. starts_with nat_eq name prefix)
    (λ candidate. starts_itself name candidate) (candidates source) (where_is_some _ h)

-- the expansions of a short name that were appended
pub adds_short : (source : List ℕ) (text : Bor (List ℕ)) (r : Result Unit AllocError) (old new : List (List ℕ)) → IsNeedle source
    (the_short text) → AddsSome r old (candidates text.now) new → AddsSome r old (prefixes_by (kind_of source) source) new
adds_short source text r old new h adds =
    let P : List (List ℕ) → Type 0 = λ more. AddsSome r old more new in
    subst P (ap candidates h.1 ∙ ap (λ k. prefixes_by k source) (sym h.0)) adds

-- each name that a positive refspec matches begins with one of its prefixes
pub matched_is_covered : (s : Spec) (name : List ℕ) → is_negative s.sign ≡ false → matches s name ≡ true
    → is_covered (prefixes_of s) name ≡ true
unfolding prefixes_of middle_of
matched_is_covered s name positive h = ap (λ l. is_covered l name) (cond-false _ [] (prefixes_by (kind_of s.source) s.source) positive)
    ∙ covered_by (kind_of s.source) s.source name h

-- the prefixes after others cover the same names
pub covered_after : (old more : List (List ℕ)) (name : List ℕ) → is_covered more name ≡ true → is_covered (old ++ more) name ≡ true
covered_after old more name h = list_any-append (λ prefix. starts_with nat_eq name prefix) old more ∙ or_right _ _ h
