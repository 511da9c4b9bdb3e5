-- Responses that are split off in sequence: those so far precede the rest.
use Rattle.std.proofs.Common.{◌≡◌, ◌==◌, ◌+◌, ◌-◌, ◌<◌, ◌≤◌, ◌⊎◌, ◌&&◌, ℕ, zero, suc, get_or, nat_le, nat_lt, Bool, true, false, if◌then◌else◌, List, [], ◌∷◌, ◌++◌, length, map, drop, Option, Some, None, refl, sym, ap, subst, ◌∙◌, append_assoc, append-nil, inl, inr, arith}
use Rattle.std.specs.Prelude.{option_map, slice_range, slice_get, Vec, vec_items}
use Rattle.std.specs.declared.alloc.Global.{Global}
use Rattle.std.proofs.lemmas.Option.{slice_get-map, slice_get_read}
use Rattle.std.proofs.lemmas.List.{drop_more, map-append}
use Rattle.std.proofs.lemmas.Bool.Decides.{nat_tests}
use Rattle.gixp_packetline.specs.declared.protocol.Protocol.{Protocol}
use Rattle.gixp_transport.specs.declared.bodies.Body.{Body}
use Rattle.gixp_transport.specs.declared.bodies.Bodies.{Bodies}
use Rattle.gixp_transport.specs.Bodies.{answer_of, IsNewBodies}
use Rattle.gixp_engine.specs.Handed.{answers_between, answer_in}
use Rattle.gixp_engine.specs.NextStep.{start_of_last, OpensOver}

-- these responses before the rest
abbrev pub before_answers : List (List ℕ) → Option (List (List ℕ)) → Option (List (List ℕ))
before_answers taken o = option_map (λ more. taken ++ more) o

one_more : (taken : List (List ℕ)) (a : List ℕ) (o : Option (List (List ℕ)))
    → before_answers taken (option_map (λ more. a ∷ more) o) ≡ before_answers (taken ++ a ∷ []) o
one_more taken a (Some more) = ap Some (sym (append_assoc taken (a ∷ []) more))
one_more taken a None = refl

by_test : (b : Bool) (x y : Option (List (List ℕ))) → b ≡ true → (if b then x else y) ≡ x
by_test true x y e = refl
by_test false x y e = cc

by_no_test : (b : Bool) (x y : Option (List (List ℕ))) → b ≡ false → (if b then x else y) ≡ y
by_no_test true x y e = cc
by_no_test false x y e = refl

in_order : (at end len : ℕ) → at ≤ end → end ≤ len → (nat_le at end && nat_le end len) ≡ true
in_order at end len h k = grind (arith, nat_tests)

out_of_order : (at end len : ℕ) → (end < at) ⊎ (len < end) → (nat_le at end && nat_le end len) ≡ false
out_of_order at end len (inl h) = grind (arith, nat_tests)
out_of_order at end len (inr h) = grind (arith, nat_tests)

-- all responses are those so far, then those that end at the remaining offsets
pub record AnswersSoFar (bytes ends : List ℕ) (at : ℕ) (left : List ℕ) (taken : List (List ℕ)) : Type 0 where
  pub split : answers_between bytes 0 ends ≡ before_answers taken (answers_between bytes at left)

none_before : (o : Option (List (List ℕ))) → o ≡ before_answers [] o
none_before (Some more) = refl
none_before None = refl

pub answers-start : (bytes ends : List ℕ) → AnswersSoFar bytes ends 0 ends []
answers-start bytes ends = record { split = none_before (answers_between bytes 0 ends) }

-- the response that ends at the next offset is split off
pub answers-more : (bytes ends : List ℕ) (i at end : ℕ) (taken : List (List ℕ)) → AnswersSoFar bytes ends at (drop i ends) taken
    → i < length ends → at ≤ get_or ends i end → get_or ends i end ≤ length bytes
    → AnswersSoFar bytes ends (get_or ends i end) (drop (i + 1) ends) (taken ++ slice_range bytes at (get_or ends i end) ∷ [])
answers-more bytes ends i at end taken so h k l = record {
  split = so.split ∙ ap (λ x. before_answers taken (answers_between bytes at x)) (drop_more ends i end h)
      ∙ ap (before_answers taken) (by_test (nat_le at (get_or ends i end) && nat_le (get_or ends i end) (length bytes)) _ None
      (in_order at (get_or ends i end) (length bytes) k l))
      ∙ one_more taken _ (answers_between bytes (get_or ends i end) (drop (i + 1) ends));
}

-- the next offset is out of order
pub answers-refused : (bytes ends : List ℕ) (i at end : ℕ) (taken : List (List ℕ)) → AnswersSoFar bytes ends at (drop i ends) taken
    → i < length ends → (get_or ends i end < at) ⊎ (length bytes < get_or ends i end) → answers_between bytes 0 ends ≡ None
answers-refused bytes ends i at end taken so h k =
    so.split ∙ ap (λ x. before_answers taken (answers_between bytes at x)) (drop_more ends i end h)
    ∙ ap (before_answers taken) (by_no_test (nat_le at (get_or ends i end) && nat_le (get_or ends i end) (length bytes)) _ None
    (out_of_order at (get_or ends i end) (length bytes) k))

-- all offsets were read
pub answers-all : (bytes ends : List ℕ) (at : ℕ) (left : List ℕ) (taken : List (List ℕ)) → AnswersSoFar bytes ends at left taken
    → left ≡ [] → at ≡ length bytes → answers_between bytes 0 ends ≡ Some taken
answers-all bytes ends at left taken so e f =
    so.split ∙ ap (λ x. before_answers taken (answers_between bytes at x)) e
    ∙ ap (before_answers taken) (by_test (at == length bytes) (Some []) None (grind (arith, nat_tests)))
    ∙ ap Some (append-nil taken)

pub answers-short : (bytes ends : List ℕ) (at : ℕ) (left : List ℕ) (taken : List (List ℕ)) → AnswersSoFar bytes ends at left taken
    → left ≡ [] → (at == length bytes) ≡ false → answers_between bytes 0 ends ≡ None
answers-short bytes ends at left taken so e f =
    so.split ∙ ap (λ x. before_answers taken (answers_between bytes at x)) e
    ∙ ap (before_answers taken) (by_no_test (at == length bytes) (Some []) None f)

-- one more body is one more response
pub bodies-more : (bodies new : List Body) (b : Body) (taken : List (List ℕ)) (a : List ℕ) → new ≡ bodies ++ b ∷ []
    → map answer_of bodies ≡ map answer_in taken → answer_of b ≡ answer_in a → map answer_of new ≡ map answer_in (taken ++ a ∷ [])
bodies-more bodies new b taken a e f k =
    ap (map answer_of) e ∙ map-append answer_of bodies (b ∷ []) ∙ ap (λ l. l ++ answer_of b ∷ []) f
    ∙ ap (λ x. map answer_in taken ++ x ∷ []) k ∙ sym (map-append answer_in taken (a ∷ []))

-- the response and the rest, if the test holds
let_through : (b : Bool) (a : List ℕ) (o : Option (List (List ℕ))) (all : List (List ℕ))
    → (if b then option_map (λ more. a ∷ more) o else None) ≡ Some all → (b ≡ true) × ((more : List (List ℕ)) × (o ≡ Some more))
let_through true a (Some more) all e = (refl, (more, refl))
let_through true a None all e = absurd cc
let_through false a o all e = absurd cc

end_within : (at end len : ℕ) → (nat_le at end && nat_le end len) ≡ true → end ≤ len
end_within at end len h = grind (arith, nat_tests)

-- each offset is within the bytes
ends_within : (bytes : List ℕ) (at : ℕ) (ends : List ℕ) (answers : List (List ℕ)) (k : ℕ) → answers_between bytes at ends ≡ Some answers
    → k < length ends → get_or ends k 0 ≤ length bytes
ends_within bytes at [] answers k e h = absurd (omega arith)
ends_within bytes at (end ∷ ends) answers zero e h =
    end_within at end (length bytes) (let_through _ (slice_range bytes at end) (answers_between bytes end ends) answers e).0
ends_within bytes at (end ∷ ends) answers (suc k) e h =
    let more = (let_through _ (slice_range bytes at end) (answers_between bytes end ends) answers e).1 in
    ends_within bytes end ends more.0 k more.1 (omega arith)

start_by : (b : Bool) (place len : ℕ) → (b ≡ false → place ≤ len) → (if b then 0 else place) ≤ len
start_by true place len h = omega arith
start_by false place len h = h refl

-- the start of the last response is within the bytes
pub start-within : (bytes ends : List ℕ) (answers : List (List ℕ)) → answers_between bytes 0 ends ≡ Some answers
    → start_of_last ends ≤ length bytes
start-within bytes ends answers e = start_by (nat_lt (length ends) 2) _ (length bytes)
    (λ h. ends_within bytes 0 ends answers (length ends - 2) e (two_more (length ends) h))
  where
    two_more : (n : ℕ) → nat_lt n 2 ≡ false → n - 2 < n
    two_more n h = grind (arith, nat_tests)

-- a transport over the bodies of responses, without a URL and a version
pub opens-over : (answers : List (List ℕ)) (bodies : List Body) (transport : Bodies) (url : List ℕ) (versions : List Protocol)
    → map answer_of bodies ≡ map answer_in answers → url ≡ [] → versions ≡ [] → IsNewBodies bodies url versions transport
    → OpensOver answers transport
opens-over answers bodies transport url versions e f k it = record {
  bodies = bodies;
  answered = e;
  fresh = subst (λ u. IsNewBodies bodies u [] transport) f (subst (λ v. IsNewBodies bodies url v transport) k it);
}

-- a copy of the request at an index
pub request-at : (sent : List (Vec ℕ Global)) (place : ℕ) (request copy : Vec ℕ Global) → place < length sent
    → request ≡ get_or sent place request → copy.items ≡ request.items → slice_get (map vec_items sent) place ≡ Some copy.items
request-at sent place request copy h e f =
    slice_get-map vec_items sent place
    ∙ ap (option_map (λ (v : Vec ℕ Global). v.items)) (slice_get_read sent (length sent) place request refl h e) ∙ ap Some (sym f)
