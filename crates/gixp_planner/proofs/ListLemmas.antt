-- Ids and refspecs read one by one: those so far stand in front of those to come.
use Rattle.std.proofs.Common.{◌≡◌, ◌⊎◌, ℕ, ◌+◌, ◌<◌, List, [], ◌∷◌, ◌++◌, length, drop, codes, get_or, Option, Some, None, Result, Ok, Err, inl, inr, sym, ap, ◌∙◌, refl, append_assoc, append-nil}
use Rattle.std.proofs.lemmas.List.{drop_more}
use Rattle.gixp_hash.specs.ObjectId.{id_of}
use Rattle.gixp_refspec.specs.declared.parse.Error.{Error as SpecError}
use Rattle.gixp_refspec.specs.Spec.{Spec, spec_of}
use Rattle.gixp_planner.specs.Haves.{with_id, ids_of}
use Rattle.gixp_planner.specs.declared.error.PlanError.{PlanError}
use Rattle.gixp_planner.specs.Refusal.{refusal, refusal_of, spec_name, IsPlanMemory}
use Rattle.gixp_planner.specs.Specs.{with_spec, specs_of, RefusesSpecs}

-- what is left of a list begins with the element at that place
pub left-at : {X : Type 0} (xs : List X) (i : ℕ) (x : X) → i < length xs → x ≡ get_or xs i x → drop i xs ≡ x ∷ drop (i + 1) xs
left-at xs i x h e = drop_more xs i x h ∙ ap (λ y. y ∷ drop (i + 1) xs) (sym e)

-- these ids in front of those to come
abbrev pub ids_in_front : List (List ℕ) → Option (List (List ℕ)) → Option (List (List ℕ))
ids_in_front vs (Some ws) = Some (vs ++ ws)
ids_in_front vs None = None

one_id : (vs : List (List ℕ)) (v : List ℕ) (r : Option (List (List ℕ))) → ids_in_front vs (with_id (Some v) r)
    ≡ ids_in_front (vs ++ v ∷ []) r
one_id vs v (Some ws) = ap Some (sym (append_assoc vs (v ∷ []) ws))
one_id vs v None = refl

no_id : (r : Option (List (List ℕ))) → with_id None r ≡ None
no_id (Some ws) = refl
no_id None = refl

-- the ids of all lines are those so far in front of those of the lines to come
pub record IdsSoFar (all left : List (List ℕ)) (ids : List (List ℕ)) : Type 0 where
  pub split : ids_of all ≡ ids_in_front ids (ids_of left)

none_so_far : (r : Option (List (List ℕ))) → r ≡ ids_in_front [] r
none_so_far (Some ws) = refl
none_so_far None = refl

pub ids-start : (all : List (List ℕ)) → IdsSoFar all all []
ids-start all = record { split = none_so_far (ids_of all) }

pub ids-more : (all left rest : List (List ℕ)) (line : List ℕ) (ids more : List (List ℕ)) (id : List ℕ) → IdsSoFar all left ids
    → left ≡ line ∷ rest → id_of line ≡ Some id → more ≡ ids ++ id ∷ []
    → IdsSoFar all rest more
ids-more all left rest line ids more id h e f g = record {
  split = h.split ∙ ap (λ l. ids_in_front ids (ids_of l)) e ∙ ap (λ o. ids_in_front ids (with_id o (ids_of rest))) f
      ∙ one_id ids id (ids_of rest) ∙ ap (λ l. ids_in_front l (ids_of rest)) (sym g);
}

pub ids-all : (all left ids : List (List ℕ)) → IdsSoFar all left ids → left ≡ [] → ids_of all ≡ Some ids
ids-all all left ids h e = h.split ∙ ap (λ l. ids_in_front ids (ids_of l)) e ∙ ap Some (append-nil ids)

pub ids-none : (all left rest : List (List ℕ)) (line : List ℕ) (ids : List (List ℕ)) → IdsSoFar all left ids → left ≡ line ∷ rest
    → id_of line ≡ None → ids_of all ≡ None
ids-none all left rest line ids h e f = h.split ∙ ap (λ l. ids_in_front ids (ids_of l)) e
    ∙ ap (λ o. ids_in_front ids (with_id o (ids_of rest))) f ∙ ap (ids_in_front ids) (no_id (ids_of rest))

-- these refspecs in front of those to come
abbrev pub specs_in_front : List Spec → Result (List Spec) SpecError → Result (List Spec) SpecError
specs_in_front vs (Ok ws) = Ok (vs ++ ws)
specs_in_front vs (Err e) = Err e

one_spec : (vs : List Spec) (v : Spec) (r : Result (List Spec) SpecError) → specs_in_front vs (with_spec (Ok v) r)
    ≡ specs_in_front (vs ++ v ∷ []) r
one_spec vs v (Ok ws) = ap Ok (sym (append_assoc vs (v ∷ []) ws))
one_spec vs v (Err e) = refl

-- the refspecs of all texts are those so far in front of those of the texts to come
pub record SpecsSoFar (all left : List (List ℕ)) (specs : List Spec) : Type 0 where
  pub split : specs_of all ≡ specs_in_front specs (specs_of left)

no_specs : (r : Result (List Spec) SpecError) → r ≡ specs_in_front [] r
no_specs (Ok ws) = refl
no_specs (Err e) = refl

pub specs-start : (all : List (List ℕ)) → SpecsSoFar all all []
specs-start all = record { split = no_specs (specs_of all) }

pub specs-more : (all left rest : List (List ℕ)) (text : List ℕ) (specs more : List Spec) (s : Spec) → SpecsSoFar all left specs
    → left ≡ text ∷ rest → spec_of text ≡ Ok s → more ≡ specs ++ s ∷ []
    → SpecsSoFar all rest more
specs-more all left rest text specs more s h e f g = record {
  split = h.split ∙ ap (λ l. specs_in_front specs (specs_of l)) e ∙ ap (λ o. specs_in_front specs (with_spec o (specs_of rest))) f
      ∙ one_spec specs s (specs_of rest) ∙ ap (λ l. specs_in_front l (specs_of rest)) (sym g);
}

pub specs-all : (all left : List (List ℕ)) (specs : List Spec) → SpecsSoFar all left specs → left ≡ [] → specs_of all ≡ Ok specs
specs-all all left specs h e = h.split ∙ ap (λ l. specs_in_front specs (specs_of l)) e ∙ ap Ok (append-nil specs)

pub specs-refused : (all left rest : List (List ℕ)) (text : List ℕ) (specs : List Spec) (e : SpecError) → SpecsSoFar all left specs
    → left ≡ text ∷ rest → spec_of text ≡ Err e → specs_of all ≡ Err e
specs-refused all left rest text specs e h k f = h.split ∙ ap (λ l. specs_in_front specs (specs_of l)) k
    ∙ ap (λ o. specs_in_front specs (with_spec o (specs_of rest))) f

-- the refusal of a text is that of all
pub refused-so-far : (all left rest : List (List ℕ)) (text : List ℕ) (specs : List Spec) (e : PlanError) → SpecsSoFar all left specs
    → left ≡ text ∷ rest
    → ((error : SpecError) × (spec_of text ≡ Err error) × (refusal_of e ≡ refusal (codes "spec") (spec_name error)))
    ⊎ IsPlanMemory (codes "spec") e → RefusesSpecs all e
refused-so-far all left rest text specs e h k (inl f) = inl (f.0, specs-refused all left rest text specs f.0 h k f.1, f.2)
refused-so-far all left rest text specs e h k (inr m) = inr m
