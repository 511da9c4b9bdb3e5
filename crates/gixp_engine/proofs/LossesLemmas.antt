-- The responses whose lines lose white space.
use Rattle.std.proofs.Common.{◌≡◌, ◌∙◌, Bool, false, List, [], ◌∷◌, length, map, refl, sym, ap, arith}
use Rattle.gixp_transport.specs.declared.bodies.Body.{Body}
use Rattle.gixp_transport.specs.Bodies.{answer_of}
use Rattle.gixp_engine.specs.declared.losses.ListLosses.{ListLosses}
use Rattle.gixp_engine.specs.ListLosses.{advertisement_loses, list_loses, first_list_loses, losses_of}

abbrev pub both : (advertisement list : Bool) → ListLosses
both advertisement list = record { advertisement = advertisement; list = list }

-- by whether there is a first response
pub first-list : (bodies rest : List Body) (first : Body) (lost : Bool) → bodies ≡ first ∷ rest → lost ≡ list_loses (answer_of first)
    → lost ≡ first_list_loses (map answer_of bodies)
first-list bodies rest first lost e f = f ∙ sym (ap (λ (b : List Body). first_list_loses (map answer_of b)) e)

pub no-first-list : (bodies : List Body) → length bodies ≡ 0 → false ≡ first_list_loses (map answer_of bodies)
no-first-list [] e = refl
no-first-list (b ∷ bodies) e = absurd (omega arith)

pub losses-by : (bodies rest : List Body) (first : Body) (advertisement list : Bool) → bodies ≡ first ∷ rest
    → advertisement ≡ advertisement_loses (answer_of first) → list ≡ first_list_loses (map answer_of rest)
    → both advertisement list ≡ losses_of (map answer_of bodies)
losses-by bodies rest first advertisement list e f k =
    ap (λ (x : Bool). both x list) f ∙ ap (both (advertisement_loses (answer_of first))) k
    ∙ sym (ap (λ (b : List Body). losses_of (map answer_of b)) e)

pub no-losses : (bodies : List Body) → length bodies ≡ 0
    → both false false ≡ losses_of (map answer_of bodies)
no-losses [] e = refl
no-losses (b ∷ bodies) e = absurd (omega arith)
