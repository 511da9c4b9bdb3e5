-- Nodes that are appended.
use Rattle.std.proofs.Common.{◌≡◌, ℕ, ◌+◌, ◌-◌, ◌<◌, ◌≤◌, ◌∙◌, cond, List, [], ◌∷◌, ◌++◌, map, length, get_or, take, drop, Some, None, refl, sym, ap, subst, arith, ⊎_elim, ◌⊎◌, inl, inr, length-append, length-drop}
use Rattle.std.proofs.Math.ListN.{get_or-append}
use Rattle.std.proofs.Math.Seq.{get_or-append_seam}
use Rattle.std.proofs.lemmas.List.{take-append-le, drop-append-le, take_more, take_all}
use Rattle.std.proofs.Common.{Result, Ok, Err}
use Rattle.std.specs.Result.{OnErr}
use Rattle.std.proofs.lemmas.List.Elements.{All-append, All-cons, All-nil, All-weaker, All-take, All-drop, recursion_from_All}
use Rattle.std.proofs.lemmas.Bool.{cases_lt}
use Rattle.std.specs.Prelude.{All}
use Rattle.std.specs.List.{filter_map, cons_option, AllByRecursion as ByRecursion}
use Rattle.std.specs.FinMap as finite
use Rattle.gixp_hash.specs.declared.object_id.ObjectId.{ObjectId}
use Rattle.gixp_graph.specs.declared.commits.Node.{Node}
use Rattle.gixp_graph.specs.declared.numbers.Numbers.{Numbers}
use Rattle.gixp_graph.specs.Slots.{IsNumbered, IsNew, IsReached}
use Rattle.gixp_graph.specs.Visited.{IsOneToOne}
use Rattle.gixp_graph.specs.Table.{id_at, ids_at, KeepsNumbers}
use Rattle.gixp_graph.specs.Node.{ids_of, parents_of, entry_of, held_in, blank, IsInRange, IsTable}
use Rattle.gixp_graph.proofs.NodeLemmas.{length_ids, held_by}

-- an appended node appends its id
pub ids_push : (nodes : List Node) (x : Node) → ids_of (nodes ++ x ∷ []) ≡ ids_of nodes ++ x.id ∷ []
ids_push [] x = refl
ids_push (y ∷ ys) x = ap (λ is. y.id ∷ is) (ids_push ys x)

-- ---- numbers

-- an old number keeps its id
old_id : (ids : List ObjectId) (id : ObjectId) (n : ℕ) → n < length ids → id_at (ids ++ id ∷ []) n ≡ id_at ids n
old_id ids id n l = get_or-append ids (id ∷ []) (record { bytes = [] }) n l

-- the new number has the new id
new_id : (ids : List ObjectId) (id : ObjectId) (n : ℕ) → length ids ≡ n → id_at (ids ++ id ∷ []) n ≡ id
new_id ids id n e = ap (id_at (ids ++ id ∷ [])) (sym e) ∙ get_or-append_seam ids id [] (record { bytes = [] })

old_or_new : (ids : List ObjectId) (id : ObjectId) (n : ℕ) → n < length (ids ++ id ∷ []) → (n < length ids) ⊎ (length ids ≡ n)
old_or_new ids id n l = ⊎_elim (λ less. inl less)
    (λ more. let size : length (ids ++ id ∷ []) ≡ length ids + 1 = length-append ids (id ∷ []) in inr (omega (arith, l)))
    (cases_lt n (length ids))

module _ (ids : List ObjectId) (id : ObjectId) (new : IsNew ids id) where
  -- appending a new id leaves no id two numbers
  pub once_push : IsOneToOne ids → IsOneToOne (ids ++ id ∷ [])
  once_push w m n k l e = ⊎_elim
      (λ a. ⊎_elim
      (λ b. w m n a b (sym (old_id ids id m a) ∙ e ∙ old_id ids id n b))
      (λ b. absurd (new m a (sym (old_id ids id m a) ∙ e ∙ new_id ids id n b))) (old_or_new ids id n l))
      (λ a. ⊎_elim
      (λ b. absurd (new n b (sym (old_id ids id n b) ∙ sym e ∙ new_id ids id m a)))
      (λ b. sym a ∙ b) (old_or_new ids id n l)) (old_or_new ids id m k)

  -- each number is still found by its id
  pub numbered_push : (a : Numbers) → IsNumbered ids a → IsReached a id (length ids) → IsNumbered (ids ++ id ∷ []) a
  numbered_push a w last n l = ⊎_elim
      (λ less. subst (λ q. IsReached a q n) (sym (old_id ids id n less)) (w n less))
      (λ e. subst (λ q. IsReached a q n) (sym (new_id ids id n e)) (subst (IsReached a id) e last)) (old_or_new ids id n l)

-- ---- the held commits stay the same

-- nodes that read the same are the same commits
same_entries : (ids ids' : List ObjectId) (parents parents' : List ℕ) (nodes : List Node)
    → ByRecursion (λ (x : Node). parents_of ids' parents' x ≡ parents_of ids parents x) nodes
    → filter_map (entry_of ids' parents') nodes ≡ filter_map (entry_of ids parents) nodes
same_entries ids ids' parents parents' [] h = refl
same_entries ids ids' parents parents' (x ∷ xs) h =
    ap (λ (ps : List ObjectId). cons_option (cond x.is_found
    (Some (x.id, record { time = x.time; parents = ps; flags = x.flags })) None) (filter_map (entry_of ids' parents') xs)) h.0
    ∙ ap (cons_option (entry_of ids parents x)) (same_entries ids ids' parents parents' xs h.1)

-- nodes that read the same hold the same commits
pub held_same : (ids ids' : List ObjectId) (parents parents' : List ℕ) (nodes : List Node) → All (λ
    (x : Node). parents_of ids' parents' x ≡ parents_of ids parents x) nodes → held_by ids' parents' nodes ≡ held_by ids parents nodes
held_same ids ids' parents parents' nodes h = ap (λ es. finite.from_entries es) (same_entries ids ids' parents parents' nodes
    (recursion_from_All (λ (x : Node). parents_of ids' parents' x ≡ parents_of ids parents x) nodes h))

map_same : (f g : ℕ → ObjectId) (xs : List ℕ) → ByRecursion (λ n. f n ≡ g n) xs → map f xs ≡ map g xs
map_same f g [] h = refl
map_same f g (x ∷ xs) h = ap (λ i. i ∷ map f xs) h.0 ∙ ap (λ is. g x ∷ is) (map_same f g xs h.1)

-- the ids of a node's parents stay the same after an id is appended
parents_grow : (ids : List ObjectId) (id : ObjectId) (parents : List ℕ) → All (λ n. n < length ids) parents → (x : Node)
    → parents_of (ids ++ id ∷ []) parents x ≡ parents_of ids parents x
parents_grow ids id parents names x =
    let part : List ℕ = take (x.end - x.first) (drop x.first parents) in
    map_same (id_at (ids ++ id ∷ [])) (id_at ids) part (recursion_from_All (λ n. id_at (ids ++ id ∷ []) n ≡ id_at ids n) part
    (All-weaker (λ n. n < length ids) (λ n. id_at (ids ++ id ∷ []) n ≡ id_at ids n)
    (λ n l. get_or-append ids (id ∷ []) (record { bytes = [] }) n l) part
    (All-take (λ n. n < length ids) (x.end - x.first) (drop x.first parents) (All-drop (λ n. n < length ids) x.first parents names))))

-- the parents of a node stay the same after a parent is appended
parents_push : (ids : List ObjectId) (parents : List ℕ) (m : ℕ) (x : Node) → x.first ≤ x.end → x.end ≤ length parents
    → parents_of ids (parents ++ m ∷ []) x ≡ parents_of ids parents x
parents_push ids parents m x a b =
    ap (λ ps. map (id_at ids) (take (x.end - x.first) ps)) (drop-append-le x.first parents (m ∷ []) (omega arith))
    ∙ ap (map (id_at ids)) (take-append-le (x.end - x.first) (drop x.first parents) (m ∷ [])
    (let l : length (drop x.first parents) ≡ length parents - x.first = length-drop x.first parents in omega arith))

-- a node that wasn't found is no commit
blank_more : (ids : List ObjectId) (parents : List ℕ) (nodes : List Node) (id : ObjectId)
    → filter_map (entry_of ids parents) (nodes ++ blank id ∷ []) ≡ filter_map (entry_of ids parents) nodes
blank_more ids parents [] id = refl
blank_more ids parents (x ∷ xs) id = ap (cons_option (entry_of ids parents x)) (blank_more ids parents xs id)

module _ (nodes : List Node) (numbers : Numbers) (parents : List ℕ) (t : IsTable nodes numbers parents) where
  -- appending a node that wasn't looked up holds no commit
  pub held_grow : (id : ObjectId) → held_in (nodes ++ blank id ∷ []) parents ≡ held_in nodes parents
  held_grow id = ap (λ es. finite.from_entries es) (blank_more (ids_of (nodes ++ blank id ∷ [])) parents nodes id)
      ∙ ap (λ is. held_by is parents nodes) (ids_push nodes (blank id))
      ∙ held_same (ids_of nodes) (ids_of nodes ++ id ∷ []) parents parents nodes
      (λ k d l. parents_grow (ids_of nodes) id parents t.names (get_or nodes k d))

  -- the table keeps its invariant after a node is appended
  pub table_grow : (id : ObjectId) (numbers' : Numbers) → IsOneToOne (ids_of (nodes ++ blank id ∷ []))
      → IsNumbered (ids_of (nodes ++ blank id ∷ [])) numbers' → IsTable (nodes ++ blank id ∷ []) numbers' parents
  table_grow id numbers' o w = record {
    numbering = w;
    once = o;
    names = All-weaker (λ n. n < length (ids_of nodes)) (λ n. n < length (ids_of (nodes ++ blank id ∷ []))) (λ n l. (
        let a : length (ids_of (nodes ++ blank id ∷ [])) ≡ length (nodes ++ blank id ∷ []) = length_ids (nodes ++ blank id ∷ []) in
        let b : length (nodes ++ blank id ∷ []) ≡ length nodes + 1 = length-append nodes (blank id ∷ []) in
        omega (arith, length_ids nodes))) parents t.names;
    ranged = All-append (IsInRange parents) nodes (blank id ∷ []) t.ranged
        (All-cons (IsInRange parents) (blank id) [] (omega arith, omega arith) (All-nil (IsInRange parents)));
  }

  -- an appended parent number changes no held commit
  pub held_push : (m : ℕ) → held_in nodes (parents ++ m ∷ []) ≡ held_in nodes parents
  held_push m = held_same (ids_of nodes) (ids_of nodes) parents (parents ++ m ∷ []) nodes
      (λ k d l. let r = t.ranged k d l in parents_push (ids_of nodes) parents m (get_or nodes k d) r.0 r.1)

  -- the table keeps its invariant after a parent number is appended
  pub table_push : (m : ℕ) → m < length (ids_of nodes) → IsTable nodes numbers (parents ++ m ∷ [])
  table_push m l = record {
    numbering = t.numbering;
    once = t.once;
    names = All-append (λ n. n < length (ids_of nodes)) parents (m ∷ []) t.names
        (All-cons (λ n. n < length (ids_of nodes)) m [] l (All-nil (λ n. n < length (ids_of nodes))));
    ranged = All-weaker (IsInRange parents) (IsInRange (parents ++ m ∷ []))
        (λ x r. (r.0, (let a : x.end ≤ length parents = r.1 in omega (arith, length-append parents (m ∷ []))))) nodes t.ranged;
  }

-- ---- one call of `number_of`

module _ (nodes nodes' : List Node) (id : ObjectId) (grown : (nodes' ≡ nodes) ⊎ (nodes' ≡ nodes ++ blank id ∷ [])) where
  -- it keeps the invariant of the table
  pub table_number : (numbers numbers' : Numbers) (parents : List ℕ) → IsTable nodes numbers parents
      → IsOneToOne (ids_of nodes') → IsNumbered (ids_of nodes') numbers' → IsTable nodes' numbers' parents
  table_number numbers numbers' parents t o w = ⊎_elim
      (λ e. record {
        numbering = w;
        once = o;
        names = subst (λ ns. All (λ n. n < length (ids_of ns)) parents) (sym e) t.names;
        ranged = subst (λ ns. All (IsInRange parents) ns) (sym e) t.ranged;
      })
      (λ e. subst (λ ns. IsTable ns numbers' parents) (sym e)
      (table_grow nodes numbers parents t id numbers' (subst (λ ns. IsOneToOne (ids_of ns)) e o)
      (subst (λ ns. IsNumbered (ids_of ns) numbers') e w)))
      grown

  -- it changes no held commit
  pub held_number : (numbers : Numbers) (parents : List ℕ) → IsTable nodes numbers parents
      → held_in nodes' parents ≡ held_in nodes parents
  held_number numbers parents t =
      ⊎_elim (λ e. ap (λ ns. held_in ns parents) e) (λ e. ap (λ ns. held_in ns parents) e ∙ held_grow nodes numbers parents t id) grown

  -- each id keeps its number
  id_number : (n : ℕ) → n < length (ids_of nodes) → id_at (ids_of nodes') n ≡ id_at (ids_of nodes) n
  id_number n l = ⊎_elim (λ e. ap (λ ns. id_at (ids_of ns) n) e)
      (λ e. ap (λ ns. id_at (ids_of ns) n) e ∙ ap (λ is. id_at is n) (ids_push nodes (blank id))
      ∙ get_or-append (ids_of nodes) (id ∷ []) (record { bytes = [] }) n l) grown

  -- the ids of some numbers stay the same
  pub ids_number : (ns : List ℕ) → All (λ n. n < length (ids_of nodes)) ns → map (id_at (ids_of nodes')) ns ≡ map (id_at (ids_of nodes)) ns
  ids_number ns names = map_same (id_at (ids_of nodes')) (id_at (ids_of nodes)) ns
      (recursion_from_All (λ n. id_at (ids_of nodes') n ≡ id_at (ids_of nodes) n) ns
      (All-weaker (λ n. n < length (ids_of nodes)) (λ n. id_at (ids_of nodes') n ≡ id_at (ids_of nodes) n) id_number ns names))

  -- each number keeps its id
  pub kept_number : KeepsNumbers (ids_of nodes) (ids_of nodes')
  kept_number n l = (
    ⊎_elim
        (λ e. subst (λ ns. n < length (ids_of ns)) (sym e) l)
        (λ e. subst (λ ns. n < length (ids_of ns)) (sym e) (
        let a : length (ids_of (nodes ++ blank id ∷ [])) ≡ length (nodes ++ blank id ∷ []) = length_ids (nodes ++ blank id ∷ []) in
        let b : length (nodes ++ blank id ∷ []) ≡ length nodes + 1 = length-append nodes (blank id ∷ []) in
        omega (arith, length_ids nodes)))
        grown,
    id_number n l,
  )

map_push : (f : ℕ → ObjectId) (xs : List ℕ) (y : ℕ) → map f (xs ++ y ∷ []) ≡ map f xs ++ f y ∷ []
map_push f [] y = refl
map_push f (x ∷ xs) y = ap (λ is. f x ∷ is) (map_push f xs y)

-- one parent more has a number
pub written_more : (nodes nodes' : List Node) (id : ObjectId) → (nodes' ≡ nodes) ⊎ (nodes' ≡ nodes ++ blank id ∷ [])
    → (n : ℕ) → id_at (ids_of nodes') n ≡ id → (parents : List ℕ) → All (λ n. n < length (ids_of nodes)) parents
    → (first : ℕ) → first ≤ length parents
    → (ps : List ObjectId) (i : ℕ) (d : ObjectId) → i < length ps → id ≡ get_or ps i d
    → map (id_at (ids_of nodes)) (drop first parents) ≡ take i ps → map (id_at (ids_of nodes')) (drop first (parents ++ n ∷ []))
    ≡ take (i + 1) ps
written_more nodes nodes' id grown n some parents names first l ps i d m e h =
    ap (map (id_at (ids_of nodes'))) (drop-append-le first parents (n ∷ []) l)
    ∙ map_push (id_at (ids_of nodes')) (drop first parents) n
    ∙ ap (λ is. is ++ id_at (ids_of nodes') n ∷ [])
    (ids_number nodes nodes' id grown (drop first parents) (All-drop (λ n. n < length (ids_of nodes)) first parents names) ∙ h)
    ∙ ap (λ x. take i ps ++ x ∷ []) (some ∙ e)
    ∙ sym (take_more ps i d m)

-- each parent has a number
pub written_all : (ids : List ObjectId) (parents : List ℕ) (first end : ℕ) → end ≡ length parents → (ps : List ObjectId) (i : ℕ)
    → length ps ≤ i
    → ids_at ids (drop first parents) ≡ take i ps → ids_at ids (take (end - first) (drop first parents)) ≡ ps
written_all ids parents first end e ps i l h =
    ap (ids_at ids) (take_all (end - first) (drop first parents) (omega (arith, length-drop first parents))) ∙ h ∙ take_all i ps l

pub any_err : {T E : Type 0} (r : Result T E) (P : Type 0) → P → OnErr r P
any_err (Ok x) P p = tt
any_err (Err e) P p = p
