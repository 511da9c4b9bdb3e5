-- The steps of reading a line.
use Rattle.std.proofs.Common.{◌≡◌, ℕ, List, [], ◌∷◌, length, refl, sym, ap, ◌∙◌, arith, Option, Some, None, Result, Ok, Err}
use Rattle.std.specs.Prelude.{true, false, codes, MatchResult}
use Rattle.std.specs.Char.{is_whitespace}
use Rattle.bstr.specs.Trim.{trim_end_by}
use Rattle.gixp_capabilities.specs.Cut.{cut}
use Rattle.gixp_capabilities.specs.Capabilities.{is_text}
use Rattle.gixp_refs.specs.RefLine.{RefsRefusal, and_then, AttributeValues, named_attribute, attribute_of, with_attribute, attributes_in, attributes_of, no_attributes, unknown_attribute, malformed_v2, first_piece, named, line_value, value_of, v2_line, never_born, invariant}
use Rattle.gixp_records.specs.declared.line.LineRefused.{LineRefused}
use Rattle.gixp_records.specs.declared.line.LineRefused.TheVariants.{Unborn}
use Rattle.gixp_records.specs.RecordLine.{Judges}

-- equal results have equal errors
pub judged_same : {A : Type 0} (o p : Result A RefsRefusal) (e : LineRefused) → o ≡ p → Judges p e → Judges o e
judged_same o p e h j = (j.0, h ∙ j.1, j.2)

pub matched_same : {A B : Type 0} (view : A → Result B RefsRefusal) (o p : Result B RefsRefusal) (r : Result A LineRefused) → o ≡ p
    → MatchResult r (λ x. p ≡ view x) (Judges p) → MatchResult r (λ x. o ≡ view x) (Judges o)
matched_same view o p (Ok x) h m = h ∙ m
matched_same view o p (Err e) h m = judged_same o p e h m

-- an error of a step is the error of the whole
pub judged_then : {A B : Type 0} (o : Result A RefsRefusal) (f : A → Result B RefsRefusal) (e : LineRefused) → Judges o e
    → Judges (and_then o f) e
judged_then o f e j = (j.0, ap (λ x. and_then x f) j.1, j.2)

attribute_is : (line name value : List ℕ) (had : AttributeValues) → (length value ≡ 0 → ⊥)
    → attribute_of line (name, Some value) had ≡ named_attribute line name value had
attribute_is line name [] had h = absurd (h refl)
attribute_is line name (x ∷ xs) had h = refl

attribute_none : (line name value : List ℕ) (had : AttributeValues) → length value ≡ 0
    → attribute_of line (name, Some value) had ≡ Err (malformed_v2 line)
attribute_none line name [] had h = refl
attribute_none line name (x ∷ xs) had h = absurd (omega arith)

pub attribute_value : (line piece name value : List ℕ) (had : AttributeValues) → cut 58 piece ≡ (name, Some value)
    → (length value ≡ 0 → ⊥) → with_attribute line piece had ≡ named_attribute line name value had
attribute_value line piece name value had c some =
    ap (λ (x : List ℕ × Option (List ℕ)). attribute_of line x had) c ∙ attribute_is line name value had some

pub attribute_empty : (line piece name value : List ℕ) (had : AttributeValues) → cut 58 piece ≡ (name, Some value)
    → length value ≡ 0 → with_attribute line piece had ≡ Err (malformed_v2 line)
attribute_empty line piece name value had c none =
    ap (λ (x : List ℕ × Option (List ℕ)). attribute_of line x had) c ∙ attribute_none line name value had none

pub attribute_alone : (line piece name : List ℕ) (had : AttributeValues) → cut 58 piece ≡ (name, None)
    → with_attribute line piece had ≡ Err (malformed_v2 line)
attribute_alone line piece name had c = ap (λ (x : List ℕ × Option (List ℕ)). attribute_of line x had) c

pub attribute_unknown : (line name value : List ℕ) (had : AttributeValues) → is_text name (codes "peeled") ≡ false
    → is_text name (codes "symref-target") ≡ false → named_attribute line name value had ≡ Err (unknown_attribute name line)
attribute_unknown line name value had p s = rw (p, s) refl

pub attributes_err : (line rest third : List ℕ) (o : Option (List ℕ)) (e : LineRefused) → cut 32 rest ≡ (third, o)
    → Judges (with_attribute line third no_attributes) e → Judges (attributes_of line (Some rest)) e
attributes_err line rest third o e c j = judged_same _ (attributes_in line (third, o)) e (ap (attributes_in line) c) (at o)
  where
    at : (o : Option (List ℕ)) → Judges (attributes_in line (third, o)) e
    at None = j
    at (Some fourth) = judged_then (with_attribute line third no_attributes) (with_attribute line fourth) e j

pub attributes_two : (line rest third fourth : List ℕ) (first : AttributeValues) → cut 32 rest ≡ (third, Some fourth)
    → with_attribute line third no_attributes ≡ Ok first → attributes_of line (Some rest) ≡ with_attribute line fourth first
attributes_two line rest third fourth first c h =
    ap (attributes_in line) c ∙ ap (λ x. and_then x (with_attribute line fourth)) h

named_some : (line name : List ℕ) (object following : Option (List ℕ)) → (length name ≡ 0 → ⊥)
    → named line object (name, following) ≡ and_then (attributes_of line following) (value_of object name)
named_some line [] object following h = absurd (h refl)
named_some line (x ∷ xs) object following h = refl

named_none : (line name : List ℕ) (object following : Option (List ℕ)) → length name ≡ 0
    → named line object (name, following) ≡ Err (malformed_v2 line)
named_none line [] object following h = refl
named_none line (x ∷ xs) object following h = absurd (omega arith)

pub named_empty : (line rest name : List ℕ) (object following : Option (List ℕ)) → cut 32 rest ≡ (name, following) → length name ≡ 0
    → named line object (cut 32 rest) ≡ Err (malformed_v2 line)
named_empty line rest name object following c z = ap (named line object) c ∙ named_none line name object following z

pub named_err : (line rest name : List ℕ) (object following : Option (List ℕ)) (e : LineRefused) → cut 32 rest ≡ (name, following)
    → (length name ≡ 0 → ⊥) → Judges (attributes_of line following) e → Judges (named line object (cut 32 rest)) e
named_err line rest name object following e c z j =
    judged_same _ (and_then (attributes_of line following) (value_of object name)) e
    (ap (named line object) c ∙ named_some line name object following z)
    (judged_then (attributes_of line following) (value_of object name) e j)

pub named_then : (line rest name : List ℕ) (object following : Option (List ℕ)) (a : AttributeValues) → cut 32 rest ≡ (name, following)
    → (length name ≡ 0 → ⊥) → attributes_of line following ≡ Ok a → named line object (cut 32 rest) ≡ value_of object name a
named_then line rest name object following a c z h =
    ap (named line object) c ∙ named_some line name object following z ∙ ap (λ x. and_then x (value_of object name)) h

pub line_none : (text trimmed first : List ℕ) → trimmed ≡ trim_end_by is_whitespace text → cut 32 trimmed ≡ (first, None)
    → v2_line text ≡ Err (malformed_v2 trimmed)
line_none text trimmed first t c = ap (λ x. line_value x (cut 32 x)) (sym t) ∙ ap (line_value trimmed) c

pub line_then : (text trimmed first rest : List ℕ) (object : Option (List ℕ)) → trimmed ≡ trim_end_by is_whitespace text
    → cut 32 trimmed ≡ (first, Some rest) → first_piece first ≡ Ok object → v2_line text ≡ named trimmed object (cut 32 rest)
line_then text trimmed first rest object t c f =
    ap (λ x. line_value x (cut 32 x)) (sym t) ∙ ap (line_value trimmed) c ∙ ap (λ x. and_then x (λ o. named trimmed o (cut 32 rest))) f

pub never_null : (name target : List ℕ) (p : Option (List ℕ)) → is_text target (codes "(null)") ≡ true
    → Judges (never_born name (Some target) p) Unborn
never_null name target p h = (invariant (codes "got 'unborn' while (null) was a symref target"), rw h refl, refl)

pub never_none : (name : List ℕ) (p : Option (List ℕ)) → Judges (never_born name None p) Unborn
never_none name None = (invariant (codes "got 'unborn' as object name of direct reference"), refl, refl)
never_none name (Some p) = (invariant (codes "got 'unborn' as tag target"), refl, refl)
