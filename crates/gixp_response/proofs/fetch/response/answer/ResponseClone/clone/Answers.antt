use Rattle.std.proofs.Common.{◌≡◌, List, [], ◌∷◌, map, refl, ◌∙◌}
use Rattle.std.specs.List.{AllZip}
use Rattle.gixp_response.specs.declared.fetch.response.line.WantedRef.{WantedRef}
use Rattle.gixp_response.specs.AnswerLine.{wanted_value}
use Rattle.gixp_response.proofs.fetch.response.answer.ResponseClone.clone.Goals as goal

wanted_same : (xs ys : List WantedRef) → AllZip (λ s t. wanted_value t ≡ wanted_value s) xs ys → map wanted_value ys ≡ map wanted_value xs
wanted_same [] [] h = refl
wanted_same [] (y ∷ ys) h = absurd h
wanted_same (x ∷ xs) [] h = absurd h
wanted_same (x ∷ xs) (y ∷ ys) h = rw (h.0, wanted_same xs ys h.1) refl

pub returns : goal.returns
returns c =
    let a = c.in_ok-from_slice.ensures.items ∙ c.deref.ensures.value in
    let b = c.in_ok-from_slice-2.ensures.items ∙ c.deref-2.ensures.value in
    let w = wanted_same c.self.inside.wanted_refs.items c.in_ok-clone.field-0.items c.in_ok-clone.ensures.cases.0 in
    record { cases = rw (← c.self.view_is) (rw (a, b, w) refl) }
