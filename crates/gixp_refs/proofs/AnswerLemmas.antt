-- The results of steps make the result of the whole call.
use Rattle.std.proofs.Common.{◌≡◌, ℕ, false, nat_eq, eq-eqb, List, [], ◌∷◌, length, refl, sym, ap, subst, ◌∙◌, arith, Option, Some, None, Result, Ok, Err}
use Rattle.std.specs.Prelude.{codes}
use Rattle.gixp_capabilities.specs.Cut.{cut}
use Rattle.gixp_refs.specs.declared.handshake.refs.parse.Error.{Error}
use Rattle.gixp_refs.specs.declared.handshake.refs.parse.Error.TheVariants.{Memory}
use Rattle.gixp_refs.specs.Ref.{ref_value}
use Rattle.gixp_refs.specs.RefLine.{RefsRefusal, and_then, AttributeValues, named_attribute, attribute_of, with_attribute, attributes_in, attributes_of, no_attributes, unknown_attribute, malformed_v2, first_piece, named, line_value, value_of}
use Rattle.gixp_capabilities.specs.Capabilities.{is_text}
use Rattle.gixp_refs.specs.ParseError.{AnswersRefs, IsParseRefusal, attribute_values, object_of}
use Rattle.gixp_hash.specs.declared.object_id.ObjectId.{ObjectId}
use Rattle.gixp_refs.specs.declared.handshake.Ref.{Ref}
use Rattle.gixp_refs.specs.declared.handshake.refs.line.Attributes.{Attributes}

-- an allocation may fail in any step
pub memory_answers : {A B : Type 0} (view : A → B) (o : Result B RefsRefusal) (e : Error) → e ≡ Memory → AnswersRefs view o (Err e)
memory_answers view (Ok x) e h = h
memory_answers view (Err r) e h = subst (λ k. IsParseRefusal k r) (sym h) (λ n. cc)

pub refusal_answers : {A B : Type 0} (view : A → B) (o : Result B RefsRefusal) (r : RefsRefusal) (e : Error) → o ≡ Err r
    → IsParseRefusal e r → AnswersRefs view o (Err e)
refusal_answers view o r e h k = subst (λ x. AnswersRefs view x (Err e)) (sym h) k

pub and_then_err : {A B C D : Type 0} (view : A → B) (view2 : C → D) (o : Result B RefsRefusal) (f : B → Result D RefsRefusal) (e : Error)
    → AnswersRefs view o (Err e) → AnswersRefs view2 (and_then o f) (Err e)
and_then_err view view2 (Ok x) f e h = memory_answers view2 (f x) e h
and_then_err view view2 (Err r) f e h = h

pub and_then_ok : {A B C D : Type 0} (view : A → B) (view2 : C → D) (o : Result B RefsRefusal) (f : B → Result D RefsRefusal) (x : A)
    (r : Result C Error)
    → AnswersRefs view o (Ok x) → AnswersRefs view2 (f (view x)) r → AnswersRefs view2 (and_then o f) r
and_then_ok view view2 (Ok y) f x r h k = subst (λ v. AnswersRefs view2 (f v) r) h k
and_then_ok view view2 (Err y) f x r h k = absurd h

pub attribute_is : (line name value : List ℕ) (had : AttributeValues) → (length value ≡ 0 → ⊥)
    → attribute_of line (name, Some value) had ≡ named_attribute line name value had
attribute_is line name [] had h = absurd (h refl)
attribute_is line name (x ∷ xs) had h = refl

pub unknown_is : (line piece name value : List ℕ) (had : AttributeValues) → cut 58 piece ≡ (name, Some value) → (length value ≡ 0 → ⊥)
    → is_text name (codes "peeled") ≡ false → is_text name (codes "symref-target") ≡ false
    → with_attribute line piece had ≡ Err (unknown_attribute name line)
unknown_is line piece name value had c some p s =
    ap (λ (x : List ℕ × Option (List ℕ)). attribute_of line x had) c ∙ attribute_is line name value had some ∙ (rw (p, s) refl)

pub attributes-err : (line rest third : List ℕ) (fourth : Option (List ℕ)) (e : Error) → cut 32 rest ≡ (third, fourth)
    → AnswersRefs attribute_values (with_attribute line third no_attributes) (Err e)
    → AnswersRefs attribute_values (attributes_of line (Some rest)) (Err e)
attributes-err line rest third fourth e c h =
    let P : (List ℕ × Option (List ℕ)) → Type 0 = λ x. AnswersRefs attribute_values (attributes_in line x) (Err e) in
    subst P (sym c) (at fourth)
  where
    at : (o : Option (List ℕ)) → AnswersRefs attribute_values (attributes_in line (third, o)) (Err e)
    at None = h
    at (Some fourth) = and_then_err attribute_values attribute_values (with_attribute line third no_attributes)
        (with_attribute line fourth) e h

pub attributes-two : (line rest third fourth : List ℕ) (first : Attributes) (r : Result Attributes Error)
    → cut 32 rest ≡ (third, Some fourth)
    → AnswersRefs attribute_values (with_attribute line third no_attributes) (Ok first)
    → AnswersRefs attribute_values (with_attribute line fourth (attribute_values first)) r
    → AnswersRefs attribute_values (attributes_of line (Some rest)) r
attributes-two line rest third fourth first r c h k =
    let P : (List ℕ × Option (List ℕ)) → Type 0 = λ x. AnswersRefs attribute_values (attributes_in line x) r in
    subst P (sym c) (and_then_ok attribute_values attribute_values (with_attribute line third no_attributes)
    (with_attribute line fourth) first r h k)

pub line-then : (trimmed first rest : List ℕ) (object : Option ObjectId) (r : Result Ref Error) → cut 32 trimmed ≡ (first, Some rest)
    → AnswersRefs object_of (first_piece first) (Ok object) → AnswersRefs ref_value (named trimmed (object_of object) (cut 32 rest)) r
    → AnswersRefs ref_value (line_value trimmed (cut 32 trimmed)) r
line-then trimmed first rest object r c h k =
    let P : (List ℕ × Option (List ℕ)) → Type 0 = λ x. AnswersRefs ref_value (line_value trimmed x) r in
    subst P (sym c) (and_then_ok object_of ref_value (first_piece first) (λ o. named trimmed o (cut 32 rest)) object r h k)

named_some : (line name : List ℕ) (object following : Option (List ℕ)) → (length name ≡ 0 → ⊥)
    → named line object (name, following) ≡ and_then (attributes_of line following) (value_of object name)
named_some line [] object following h = absurd (h refl)
named_some line (x ∷ xs) object following h = refl

named_none : (line name : List ℕ) (object following : Option (List ℕ)) → length name ≡ 0
    → named line object (name, following) ≡ Err (malformed_v2 line)
named_none line [] object following h = refl
named_none line (x ∷ xs) object following h = absurd (omega arith)

pub named-empty : (line rest name : List ℕ) (object following : Option (List ℕ)) (e : Error) → cut 32 rest ≡ (name, following) → length name ≡ 0
    → IsParseRefusal e (malformed_v2 line) → AnswersRefs ref_value (named line object (cut 32 rest)) (Err e)
named-empty line rest name object following e c z h =
    refusal_answers ref_value (named line object (cut 32 rest)) (malformed_v2 line) e
    (ap (λ (x : List ℕ × Option (List ℕ)). named line object x) c ∙ named_none line name object following z) h

pub named-err : (line rest name : List ℕ) (object following : Option (List ℕ)) (e : Error) → cut 32 rest ≡ (name, following)
    → (length name ≡ 0 → ⊥)
    → AnswersRefs attribute_values (attributes_of line following) (Err e) → AnswersRefs ref_value (named line object (cut 32 rest)) (Err e)
named-err line rest name object following e c z h =
    let same = ap (λ (x : List ℕ × Option (List ℕ)). named line object x) c ∙ named_some line name object following z in
    subst (λ x. AnswersRefs ref_value x (Err e)) (sym same)
    (and_then_err attribute_values ref_value (attributes_of line following) (value_of object name) e h)

pub named-then : (line rest name : List ℕ) (object following : Option (List ℕ)) (had : Attributes) (r : Result Ref Error)
    → cut 32 rest ≡ (name, following) → (length name ≡ 0 → ⊥)
    → AnswersRefs attribute_values (attributes_of line following) (Ok had) → AnswersRefs ref_value
    (value_of object name (attribute_values had)) r → AnswersRefs ref_value (named line object (cut 32 rest)) r
named-then line rest name object following had r c z h k =
    let same = ap (λ (x : List ℕ × Option (List ℕ)). named line object x) c ∙ named_some line name object following z in
    subst (λ x. AnswersRefs ref_value x r) (sym same)
    (and_then_ok attribute_values ref_value (attributes_of line following) (value_of object name) had r h k)

pub not_empty : (n : ℕ) → false ≡ nat_eq n 0 → n ≡ 0 → ⊥
not_empty n f z = let t = eq-eqb n 0 z in cc
