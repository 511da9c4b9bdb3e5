-- Visited numbers as ids.
use Rattle.std.proofs.Common.{◌≡◌, ℕ, ◌<◌, ◌∙◌, ⊎_elim, zero, suc, Bool, true, false, ◌||◌, List, [], ◌∷◌, length, refl, sym, ap, subst, arith}
use Rattle.std.specs.Prelude.{◌==◌, ◌&&◌}
use Rattle.std.specs.Ordering.{eq_by_cmp}
use Rattle.std.proofs.lemmas.Bool.{or_cases, eqb-true, eq-eqb}
use Rattle.gixp_hash.specs.declared.object_id.ObjectId.{ObjectId}
use Rattle.gixp_hash.specs.ObjectId.{id_cmp}
use Rattle.gixp_graph.specs.Table.{id_at, KeepsNumbers}
use Rattle.gixp_graph.specs.Visited.{has, is_visited, AllVisitedNamed, IsOneToOne}
use Rattle.gixp_graph.specs.GraphLaws.{same_from}
use Rattle.gixp_graph.proofs.MarkLemmas.{same_id, true_or_false}

pub or_true : (a b : Bool) → b ≡ true → (a || b) ≡ true
or_true true b e = refl
or_true false b e = e

or_left : (a b : Bool) → a ≡ true → (a || b) ≡ true
or_left true b e = refl
or_left false b e = cc

and_both : (a b : Bool) → (a && b) ≡ true → (a ≡ true) × (b ≡ true)
and_both true b e = (refl, e)
and_both false b e = cc

same_test : (a b : Bool) → (a ≡ true → b ≡ true) → (b ≡ true → a ≡ true) → a ≡ b
same_test true b f h = sym (f refl)
same_test false true f h = h refl
same_test false false f h = refl

-- the id of a visited number was visited
pub visited_at : (ids : List ObjectId) (bits : List Bool) (n : ℕ) → n < length ids → has bits n ≡ true
    → is_visited ids bits (id_at ids n) ≡ true
visited_at [] bits n l e = absurd (omega arith)
visited_at (i ∷ is) [] n l e = cc
visited_at (i ∷ is) (b ∷ bs) zero l e = ap (λ x. (x && eq_by_cmp id_cmp i i) || is_visited is bs i) e
    ∙ ap (λ x. x || is_visited is bs i) (same_id i)
visited_at (i ∷ is) (b ∷ bs) (suc n) l e = or_true (b && eq_by_cmp id_cmp (id_at is n) i) (is_visited is bs (id_at is n))
    (visited_at is bs n (omega arith) e)

-- a visited id has a visited number
visited_by : (ids : List ObjectId) (bits : List Bool) (q : ObjectId) → is_visited ids bits q ≡ true → (n : ℕ) × (n < length ids)
    × (has bits n ≡ true) × (id_at ids n ≡ q)
visited_by [] bits q e = cc
visited_by (i ∷ is) [] q e = cc
visited_by (i ∷ is) (b ∷ bs) q e = ⊎_elim
    (λ a. let h = and_both b (eq_by_cmp id_cmp q i) a in (0, omega arith, h.0, sym (same_from q i h.1)))
    (λ a. let r = visited_by is bs q a in let l : r.0 < length is = r.1 in (suc r.0, omega arith, r.2, r.3))
    (or_cases (b && eq_by_cmp id_cmp q i) (is_visited is bs q) e)

-- at first no id was visited
pub none_visited : (ids : List ObjectId) (q : ObjectId) → is_visited ids [] q ≡ false
none_visited [] q = refl
none_visited (i ∷ is) q = refl

-- the id of a number was visited exactly where the number was
pub visited_here : (ids : List ObjectId) (bits : List Bool) (n : ℕ) (b : Bool) → AllVisitedNamed ids bits → IsOneToOne ids
    → n < length ids → has bits n ≡ b → is_visited ids bits (id_at ids n) ≡ b
visited_here ids bits n true named once l e = visited_at ids bits n l e
visited_here ids bits n false named once l e = ⊎_elim
    (λ t.
    let v = visited_by ids bits (id_at ids n) t in
    let same : v.0 ≡ n = once v.0 n v.1 l v.3 in
    absurd (let c : true ≡ false = sym v.2 ∙ ap (has bits) same ∙ e in cc))
    (λ f. f) (true_or_false (is_visited ids bits (id_at ids n)))

module _ (ids ids' : List ObjectId) (kept : KeepsNumbers ids ids') (bits : List Bool) (named : AllVisitedNamed ids bits) where
  -- new numbers don't change which ids were visited
  pub visited_kept : (q : ObjectId) → is_visited ids' bits q ≡ is_visited ids bits q
  visited_kept q = same_test (is_visited ids' bits q) (is_visited ids bits q)
      (λ t.
      let v = visited_by ids' bits q t in
      let l : v.0 < length ids = named v.0 v.2 in
      subst (λ i. is_visited ids bits i ≡ true) (sym (kept v.0 l).1 ∙ v.3) (visited_at ids bits v.0 l v.2))
      (λ t.
      let v = visited_by ids bits q t in
      let k = kept v.0 v.1 in
      subst (λ i. is_visited ids' bits i ≡ true) (k.1 ∙ v.3) (visited_at ids' bits v.0 k.0 v.2))

  -- visited numbers still name ids
  pub visited_still_named : AllVisitedNamed ids' bits
  visited_still_named n e = (kept n (named n e)).0

  module _ (bits' : List Bool) (number : ℕ) (l : number < length ids) (more : (n : ℕ) → has bits' n ≡ (n == number || has bits n)) where
    has_new : has bits' number ≡ true
    has_new = more number ∙ ap (λ b. b || has bits number) (eq-eqb number number refl)

    -- all visited numbers name ids
    pub named_more : AllVisitedNamed ids' bits'
    named_more n e = ⊎_elim
        (λ t. subst (λ m. m < length ids') (sym (eqb-true n number t)) (kept number l).0)
        (λ t. (kept n (named n t)).0)
        (or_cases (n == number) (has bits n) (sym (more n) ∙ e))

    -- one more number: its id was visited, and so were those before
    pub visited_more : (q : ObjectId) → is_visited ids' bits' q ≡ (eq_by_cmp id_cmp q (id_at ids number) || is_visited ids bits q)
    visited_more q = same_test (is_visited ids' bits' q) (eq_by_cmp id_cmp q (id_at ids number) || is_visited ids bits q)
        (λ t.
        let v = visited_by ids' bits' q t in
        ⊎_elim
        (λ a.
        let own : q ≡ id_at ids number = sym v.3 ∙ ap (id_at ids') (eqb-true v.0 number a) ∙ (kept number l).1 in
        or_left (eq_by_cmp id_cmp q (id_at ids number)) (is_visited ids bits q) (subst (λ i. eq_by_cmp id_cmp q i ≡ true) own (same_id q)))
        (λ a.
        let m : v.0 < length ids = named v.0 a in
        or_true (eq_by_cmp id_cmp q (id_at ids number)) (is_visited ids bits q)
        (subst (λ i. is_visited ids bits i ≡ true) (sym (kept v.0 m).1 ∙ v.3) (visited_at ids bits v.0 m a)))
        (or_cases (v.0 == number) (has bits v.0) (sym (more v.0) ∙ v.2)))
        (λ t. ⊎_elim
        (λ a. let k = kept number l in subst (λ i. is_visited ids' bits' i ≡ true) (k.1 ∙ sym (same_from q (id_at ids number) a))
        (visited_at ids' bits' number k.0 has_new))
        (λ a.
        let v = visited_by ids bits q a in
        let k = kept v.0 v.1 in
        subst (λ i. is_visited ids' bits' i ≡ true) (k.1 ∙ v.3)
        (visited_at ids' bits' v.0 k.0 (more v.0 ∙ or_true (v.0 == number) (has bits v.0) v.2)))
        (or_cases (eq_by_cmp id_cmp q (id_at ids number)) (is_visited ids bits q) t))

-- a visited id adds nothing
pub visited_again : (visited : ObjectId → Bool) (id q : ObjectId) → visited id ≡ true → (eq_by_cmp id_cmp q id || visited q) ≡ visited q
visited_again visited id q v = ⊎_elim
    (λ e. or_left (eq_by_cmp id_cmp q id) (visited q) e ∙ sym (ap visited (same_from q id e) ∙ v))
    (λ e. ap (λ b. b || visited q) e)
    (true_or_false (eq_by_cmp id_cmp q id))
