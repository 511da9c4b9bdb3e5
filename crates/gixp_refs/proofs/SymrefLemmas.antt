-- The symrefs of capabilities, read one capability at a time.
use Rattle.std.proofs.Common.{◌≡◌, List, ◌∷◌, ◌++◌, ap, ◌∙◌, Option, Some, None, Result, Ok, Err}
use Rattle.std.specs.Option.{option_map}
use Rattle.gixp_capabilities.specs.Capabilities.{CapabilityValue}
use Rattle.gixp_refs.specs.declared.handshake.refs.parse.Error.{Error}
use Rattle.gixp_refs.specs.RefLine.{RefsRefusal}
use Rattle.gixp_refs.specs.ParseError.{AnswersRefs}
use Rattle.gixp_refs.specs.RefAdvertisement.{Symref, symref_in, with_symref, symref_table}
use Rattle.gixp_refs.proofs.AnswerLemmas.{memory_answers, refusal_answers}

-- these symrefs before the others
abbrev pub symrefs_in_front : List Symref → Result (List Symref) RefsRefusal → Result (List Symref) RefsRefusal
symrefs_in_front xs (Ok ys) = Ok (xs ++ ys)
symrefs_in_front xs (Err e) = Err e

skip_at : {A : Type 0} (view : A → Symref) (o : Result (Option Symref) RefsRefusal) (all rest : Result (List Symref) RefsRefusal)
    (xs : List Symref) → AnswersRefs (option_map view) o (Ok None)
    → all ≡ symrefs_in_front xs (with_symref o rest) → all ≡ symrefs_in_front xs rest
skip_at view (Ok None) all rest xs a h = h
skip_at view (Ok (Some s)) all rest xs a h = cc
skip_at view (Err e) all rest xs a h = absurd a

-- a capability that is not a symref
pub symrefs_skip : {A : Type 0} (view : A → Symref) (all : Result (List Symref) RefsRefusal) (xs : List Symref)
    (left now : List CapabilityValue) (c : CapabilityValue) → all ≡ symrefs_in_front xs (symref_table left) → left ≡ c ∷ now
    → AnswersRefs (option_map view) (symref_in c) (Ok None) → all ≡ symrefs_in_front xs (symref_table now)
symrefs_skip view all xs left now c h e a =
    skip_at view (symref_in c) all (symref_table now) xs a (h ∙ ap (λ l. symrefs_in_front xs (symref_table l)) e)

refused_at : {A B : Type 0} (view : A → Symref) (view2 : B → List Symref) (o : Result (Option Symref) RefsRefusal)
    (all rest : Result (List Symref) RefsRefusal) (xs : List Symref) (e : Error)
    → AnswersRefs (option_map view) o (Err e) → all ≡ symrefs_in_front xs (with_symref o rest) → AnswersRefs view2 all (Err e)
refused_at view view2 (Ok s) all rest xs e a h = memory_answers view2 all e a
refused_at view view2 (Err r) all rest xs e a h = refusal_answers view2 all r e h a

-- a capability that is an error
pub symrefs_refused : {A B : Type 0} (view : A → Symref) (view2 : B → List Symref) (all : Result (List Symref) RefsRefusal)
    (xs : List Symref) (left now : List CapabilityValue) (c : CapabilityValue) (e : Error)
    → all ≡ symrefs_in_front xs (symref_table left) → left ≡ c ∷ now → AnswersRefs (option_map view) (symref_in c) (Err e)
    → AnswersRefs view2 all (Err e)
symrefs_refused view view2 all xs left now c e h f a =
    refused_at view view2 (symref_in c) all (symref_table now) xs e a (h ∙ ap (λ l. symrefs_in_front xs (symref_table l)) f)
