-- Commits as nodes, and as a finite map.
use Rattle.std.proofs.Common.{◌≡◌, ℕ, ◌-◌, ◌<◌, ◌∙◌, drop, zero, suc, Bool, true, false, cond, List, [], ◌∷◌, length, get_or, set, Option, Some, None, refl, sym, ap, subst, arith, ⊎_elim, ◌⊎◌, inl, inr}
use Rattle.std.specs.Prelude.{All, bit_or, IfNone, option_map, unwrap_or}
use Rattle.gixp_graph.specs.declared.flags.Flags.{Flags}
use Rattle.std.specs.List.{filter_map, cons_option}
use Rattle.std.specs.Ordering.{eq_by_cmp}
use Rattle.std.proofs.lemmas.Bool.{cases_lt}
use Rattle.std.proofs.lemmas.List.Elements.{All-nil, All-set, All-take, All-drop}
use Rattle.std.specs.FinMap as finite
use Rattle.std.specs.FinMap.{find, get-from_entries, same_map}
use Rattle.gixp_hash.specs.declared.object_id.ObjectId.{ObjectId}
use Rattle.gixp_graph.specs.declared.commits.Node.{Node}
use Rattle.gixp_graph.specs.declared.numbers.Numbers.{Numbers}
use Rattle.gixp_graph.specs.Slots.{IsNumbered, IsNew}
use Rattle.gixp_hash.specs.ObjectId.{id_cmp}
use Rattle.gixp_graph.specs.GraphData.{HeldCommit, Commits, parents_in, flagged}
use Rattle.gixp_graph.specs.Table.{id_at, ids_at, AllNamed}
use Rattle.gixp_graph.specs.Node.{ids_of, range_of, parent_numbers_of, parents_of, held_of, entry_of, held_in, IsInRange, IsTable}
use Rattle.gixp_graph.specs.Visited.{IsOneToOne}
use Rattle.gixp_graph.specs.GraphLaws.{same_from}
use Rattle.gixp_hash.specs.IdLaws.{ids_exact, ids_total}
use Rattle.gixp_graph.proofs.HeldLemmas.{flagged_held}
use Rattle.gixp_graph.proofs.MarkLemmas.{same_id, true_or_false, get_insert_other, get_insert_same}

-- the commit of a node, where it was found
abbrev pub shown_node : List ObjectId → List ℕ → Node → Option HeldCommit
shown_node ids parents x = cond x.is_found (Some (held_of ids parents x)) None

module _ (ids : List ObjectId) (parents : List ℕ) where
  find_none : (nodes : List Node) (q : ObjectId) → ((k : ℕ) (d : Node) → k < length nodes → eq_by_cmp id_cmp q (get_or nodes k d).id
      ≡ false) → find id_cmp q (filter_map (entry_of ids parents) nodes) ≡ None
  find_none [] q h = refl
  find_none (x ∷ xs) q h = here x.is_found (h 0 x (omega arith)) (find_none xs q (λ k d l. h (suc k) d (omega arith)))
    where
      here : (b : Bool) → eq_by_cmp id_cmp q x.id ≡ false → find id_cmp q (filter_map (entry_of ids parents) xs) ≡ None
          → find id_cmp q (cons_option (cond b (Some (x.id, held_of ids parents x)) None) (filter_map (entry_of ids parents) xs)) ≡ None
      here true e r = ap (λ t. cond t (Some (held_of ids parents x)) (find id_cmp q (filter_map (entry_of ids parents) xs))) e ∙ r
      here false e r = r

  -- the only node with an id has its commit
  find_node : (nodes : List Node) (q : ObjectId) (n : ℕ) (x : Node) → n < length nodes → ((d : Node) → get_or nodes n d ≡ x)
      → eq_by_cmp id_cmp q x.id ≡ true
      → ((k : ℕ) (d : Node) → k < length nodes → eq_by_cmp id_cmp q (get_or nodes k d).id ≡ true → k ≡ n)
      → find id_cmp q (filter_map (entry_of ids parents) nodes) ≡ shown_node ids parents x
  find_node [] q n x l at e one = absurd (omega arith)
  find_node (y ∷ ys) q zero x l at e one =
      subst (λ z. find id_cmp q (filter_map (entry_of ids parents) (y ∷ ys)) ≡ shown_node ids parents z) (at y)
      (here y.is_found (subst (λ (z : Node). eq_by_cmp id_cmp q z.id ≡ true) (sym (at y)) e)
      (find_none ys q (λ k d m. ⊎_elim (λ t. absurd (let z : suc k ≡ 0 = one (suc k) d (omega arith) t in omega arith)) (λ f. f)
      (true_or_false (eq_by_cmp id_cmp q (get_or ys k d).id)))))
    where
      here : (b : Bool) → eq_by_cmp id_cmp q y.id ≡ true → find id_cmp q (filter_map (entry_of ids parents) ys) ≡ None
          → find id_cmp q (cons_option (cond b (Some (y.id, held_of ids parents y)) None) (filter_map (entry_of ids parents) ys))
          ≡ cond b (Some (held_of ids parents y)) None
      here true t r = ap (λ v. cond v (Some (held_of ids parents y)) (find id_cmp q (filter_map (entry_of ids parents) ys))) t
      here false t r = r
  find_node (y ∷ ys) q (suc n) x l at e one =
      here y.is_found (⊎_elim (λ t. absurd (let z : 0 ≡ suc n = one 0 y (omega arith) t in omega arith)) (λ f. f)
      (true_or_false (eq_by_cmp id_cmp q y.id)))
      (find_node ys q n x (omega arith) at e (λ k d m t. let z : suc k ≡ suc n = one (suc k) d (omega arith) t in omega arith))
    where
      here : (b : Bool) → eq_by_cmp id_cmp q y.id ≡ false → find id_cmp q (filter_map (entry_of ids parents) ys) ≡ shown_node ids parents x
          → find id_cmp q (cons_option (cond b (Some (y.id, held_of ids parents y)) None) (filter_map (entry_of ids parents) ys))
          ≡ shown_node ids parents x
      here true f r = ap (λ v. cond v (Some (held_of ids parents y)) (find id_cmp q (filter_map (entry_of ids parents) ys))) f ∙ r
      here false f r = r

pub id_of_node : (nodes : List Node) (n : ℕ) (d : Node) → n < length nodes → id_at (ids_of nodes) n ≡ (get_or nodes n d).id
id_of_node [] n d l = absurd (omega arith)
id_of_node (x ∷ xs) zero d l = refl
id_of_node (x ∷ xs) (suc n) d l = id_of_node xs n d (omega arith)

pub length_ids : (nodes : List Node) → length (ids_of nodes) ≡ length nodes
length_ids [] = refl
length_ids (x ∷ xs) = ap suc (length_ids xs)

-- a lookup within the list doesn't depend on its default
pub node_same : (nodes : List Node) (n : ℕ) (d e : Node) → n < length nodes → get_or nodes n d ≡ get_or nodes n e
node_same [] n d e l = absurd (omega arith)
node_same (x ∷ xs) zero d e l = refl
node_same (x ∷ xs) (suc n) d e l = node_same xs n d e (omega arith)

-- the held commits, with ids for their parents that may be others
abbrev pub held_by : List ObjectId → List ℕ → List Node → Commits
held_by ids parents nodes = finite.from_entries (filter_map (entry_of ids parents) nodes)

-- a number names an id
abbrev pub Names : List ObjectId → ℕ → ObjectId → Type 0
Names ids n q = (n < length ids) × (id_at ids n ≡ q)

-- an id without a number isn't held
pub get_unnumbered : (ids : List ObjectId) (parents : List ℕ) (nodes : List Node) (q : ObjectId) → IsNew (ids_of nodes) q
    → finite.get (held_by ids parents nodes) q ≡ None
get_unnumbered ids parents nodes q new = get-from_entries ids_total _ q ∙ find_none ids parents nodes q (λ k d l. ⊎_elim
    (λ t. absurd (new k (omega (arith, length_ids nodes)) (id_of_node nodes k d l ∙ sym (same_from q (get_or nodes k d).id t))))
    (λ f. f) (true_or_false (eq_by_cmp id_cmp q (get_or nodes k d).id)))

module _ (ids : List ObjectId) (parents : List ℕ) (nodes : List Node) (w : IsOneToOne (ids_of nodes)) where
  -- an id with a number is held as its node has it
  pub get_numbered : (q : ObjectId) (n : ℕ) → Names (ids_of nodes) n q → (x : Node) → x ≡ get_or nodes n x
      → finite.get (held_by ids parents nodes) q ≡ shown_node ids parents x
  get_numbered q n here x at =
      let l : n < length nodes = omega (arith, here.0, length_ids nodes) in
      let own : q ≡ x.id = sym here.1 ∙ id_of_node nodes n x l ∙ ap (λ (z : Node). z.id) (sym at) in
      get-from_entries ids_total _ q ∙ find_node ids parents nodes q n x l (λ d. node_same nodes n d x l ∙ sym at)
      (subst (λ z. eq_by_cmp id_cmp q z ≡ true) own (same_id q))
      (λ k d m t.
      let same : q ≡ id_at (ids_of nodes) k = same_from q (get_or nodes k d).id t ∙ sym (id_of_node nodes k d m) in
      w k n (omega (arith, length_ids nodes)) here.0 (sym same ∙ sym here.1))

module _ (nodes : List Node) (parents : List ℕ) (w : IsOneToOne (ids_of nodes)) where
  -- the commit of a number is held as its node has it
  pub held_at : (n : ℕ) → n < length (ids_of nodes) → (x : Node) → x ≡ get_or nodes n x
      → finite.get (held_in nodes parents) (id_at (ids_of nodes) n) ≡ shown_node (ids_of nodes) parents x
  held_at n l x at = get_numbered (ids_of nodes) parents nodes w (id_at (ids_of nodes) n) n (l, refl) x at

  -- the parents of a commit are the parents of its node
  pub parents_at_node : (n : ℕ) → n < length (ids_of nodes) → (x : Node) → x ≡ get_or nodes n x
      → ids_at (ids_of nodes) (parent_numbers_of parents x) ≡ parents_in (held_in nodes parents) (id_at (ids_of nodes) n)
  parents_at_node n l x at = here x.is_found
      ∙ ap (λ o. unwrap_or (option_map (λ (h : HeldCommit). h.parents) o) []) (sym (held_at n l x at))
    where
      here : (b : Bool) → ids_at (ids_of nodes) (cond b (range_of parents x) [])
          ≡ unwrap_or (option_map (λ (h : HeldCommit). h.parents) (cond b (Some (held_of (ids_of nodes) parents x)) None)) []
      here true = refl
      here false = refl

-- an id that wasn't found by its number isn't held
pub no_number : (nodes : List Node) (parents : List ℕ) (o : Option ℕ) (q : ObjectId) → IfNone o (IsNew (ids_of nodes) q)
    → IfNone o (finite.get (held_in nodes parents) q ≡ None)
no_number nodes parents None q new = get_unnumbered (ids_of nodes) parents nodes q new
no_number nodes parents (Some n) q new = tt

-- the numbers of a node's parents name ids
pub named_node : (ids : List ObjectId) (parents : List ℕ) (x : Node) → AllNamed ids parents → AllNamed ids (parent_numbers_of parents x)
named_node ids parents x h = here x.is_found
  where
    here : (b : Bool) → AllNamed ids (cond b (range_of parents x) [])
    here true = All-take (λ n. n < length ids) (x.end - x.first) (drop x.first parents) (All-drop (λ n. n < length ids) x.first parents h)
    here false = All-nil (λ n. n < length ids)

pub named_or_new : (ids : List ObjectId) (q : ObjectId) → IsNew ids q ⊎ ((k : ℕ) × Names ids k q)
named_or_new [] q = inl (λ k l e. omega (arith, l))
named_or_new (i ∷ is) q = here (true_or_false (eq_by_cmp id_cmp i q)) (named_or_new is q)
  where
    none : (eq_by_cmp id_cmp i q ≡ false) → IsNew is q → IsNew (i ∷ is) q
    none f new zero l e = (let t : eq_by_cmp id_cmp i q ≡ true = subst (λ z. eq_by_cmp id_cmp i z ≡ true) e (same_id i) in cc)
    none f new (suc k) l e = new k (omega (arith, l)) e

    here : (eq_by_cmp id_cmp i q ≡ true) ⊎ (eq_by_cmp id_cmp i q ≡ false) → IsNew is q ⊎ ((k : ℕ) × Names is k q)
        → IsNew (i ∷ is) q ⊎ ((k : ℕ) × Names (i ∷ is) k q)
    here (inl t) rest = inr (0, (omega arith, same_from i q t))
    here (inr f) (inl new) = inl (none f new)
    here (inr f) (inr (k, h)) = inr (suc k, (omega (arith, h.0), h.1))

pub nat_cases : (k n : ℕ) → (k ≡ n) ⊎ (k ≡ n → ⊥)
nat_cases k n = ⊎_elim (λ a. inr (λ e. omega arith)) (λ a. ⊎_elim (λ b. inr (λ e. omega arith)) (λ b. inl (omega arith)) (cases_lt n k))
    (cases_lt k n)

set_here : (nodes : List Node) (n : ℕ) (x d : Node) → n < length nodes → get_or (set nodes n x) n d ≡ x
set_here [] n x d l = absurd (omega arith)
set_here (y ∷ ys) zero x d l = refl
set_here (y ∷ ys) (suc n) x d l = set_here ys n x d (omega arith)

set_other : (nodes : List Node) (n k : ℕ) (x d : Node) → (k ≡ n → ⊥) → get_or (set nodes n x) k d ≡ get_or nodes k d
set_other [] n k x d a = refl
set_other (y ∷ ys) zero zero x d a = absurd (a refl)
set_other (y ∷ ys) zero (suc k) x d a = refl
set_other (y ∷ ys) (suc n) zero x d a = refl
set_other (y ∷ ys) (suc n) (suc k) x d a = set_other ys n k x d (λ e. a (ap suc e))

-- a node that is replaced keeps its id
pub ids_set : (nodes : List Node) (n : ℕ) (x : Node) → n < length nodes → x.id ≡ id_at (ids_of nodes) n
    → ids_of (set nodes n x) ≡ ids_of nodes
ids_set [] n x l e = absurd (omega arith)
ids_set (y ∷ ys) zero x l e = ap (λ i. i ∷ ids_of ys) e
ids_set (y ∷ ys) (suc n) x l e = ap (λ is. y.id ∷ is) (ids_set ys n x (omega arith) e)

module _ (nodes : List Node) (parents : List ℕ) (w : IsOneToOne (ids_of nodes)) (q : ObjectId) (n : ℕ) (some : Names (ids_of nodes) n q)
    (x : Node) (own : x.id ≡ q) where
  place : n < length nodes
  place = omega (arith, some.0, length_ids nodes)

  -- the ids stay the same
  pub ids_kept : ids_of (set nodes n x) ≡ ids_of nodes
  ids_kept = ids_set nodes n x place (own ∙ sym some.1)

  -- each id still has one number
  once_set : IsOneToOne (ids_of (set nodes n x))
  once_set = subst IsOneToOne (sym ids_kept) w

  -- the table keeps its invariant
  pub table_set : (numbers : Numbers) → IsTable nodes numbers parents → IsInRange parents x → IsTable (set nodes n x) numbers parents
  table_set numbers t r = record {
    numbering = subst (λ is. IsNumbered is numbers) (sym ids_kept) t.numbering;
    once = once_set;
    names = subst (λ is. All (λ m. m < length is) parents) (sym ids_kept) t.names;
    ranged = All-set (IsInRange parents) nodes n x r t.ranged;
  }

  -- replacing the node of an id inserts its commit
  pub held_set : x.is_found ≡ true → held_in (set nodes n x) parents ≡ finite.insert (held_in nodes parents) q
      (held_of (ids_of nodes) parents x)
  held_set found = ap (λ is. held_by is parents (set nodes n x)) ids_kept
      ∙ same_map ids_total ids_exact _ _ (λ p. at p (named_or_new (ids_of nodes) p))
    where
      apart : (p : ObjectId) → (p ≡ q → ⊥) → finite.get
          (finite.insert (held_in nodes parents) q (held_of (ids_of nodes) parents x)) p ≡ finite.get (held_in nodes parents) p
      apart p never = get_insert_other (held_in nodes parents) q _ p (⊎_elim
          (λ t. absurd (never (same_from p q t))) (λ f. f) (true_or_false (eq_by_cmp id_cmp p q)))

      at : (p : ObjectId) → IsNew (ids_of nodes) p ⊎ ((k : ℕ) × Names (ids_of nodes) k p)
          → finite.get (held_by (ids_of nodes) parents (set nodes n x)) p
          ≡ finite.get (finite.insert (held_in nodes parents) q (held_of (ids_of nodes) parents x)) p
      at p (inl e) = get_unnumbered (ids_of nodes) parents (set nodes n x) p (subst (λ is. IsNew is p) (sym ids_kept) e)
          ∙ sym (apart p (λ s. e n some.0 (some.1 ∙ sym s))
          ∙ get_unnumbered (ids_of nodes) parents nodes p e)
      at p (inr (k, h)) = ⊎_elim
          (λ s.
          let one : p ≡ q = sym h.1 ∙ ap (id_at (ids_of nodes)) s ∙ some.1 in
          get_numbered (ids_of nodes) parents (set nodes n x) once_set p n
          (subst (λ is. Names is n p) (sym ids_kept) (some.0, some.1 ∙ sym one)) x (sym (set_here nodes n x x place))
          ∙ ap (λ b. cond b (Some (held_of (ids_of nodes) parents x)) None) found
          ∙ sym (ap (finite.get (finite.insert (held_in nodes parents) q (held_of (ids_of nodes) parents x))) one
          ∙ get_insert_same (held_in nodes parents) q _))
          (λ s.
          let y : Node = get_or nodes k x in
          let m : k < length nodes = omega (arith, h.0, length_ids nodes) in
          get_numbered (ids_of nodes) parents (set nodes n x) once_set p k (subst (λ is. Names is k p) (sym ids_kept) h) y
          (sym (set_other nodes n k x y s ∙ node_same nodes k y x m))
          ∙ sym (apart p (λ t. s (w k n h.0 some.0 (h.1 ∙ t ∙ sym some.1)))
          ∙ get_numbered (ids_of nodes) parents nodes w p k h y (node_same nodes k x y m)))
          (nat_cases k n)

-- a node with other marks
abbrev pub with_marks : Node → Flags → Node
with_marks y f = record { id = y.id; time = y.time; flags = f; is_found = y.is_found; first = y.first; end = y.end }

module _ (nodes : List Node) (parents : List ℕ) (w : IsOneToOne (ids_of nodes)) (q : ObjectId) (n : ℕ) (some : Names (ids_of nodes) n q)
    (y : Node) (at : y ≡ get_or nodes n y) where
  own_id : y.id ≡ q
  own_id = (let l : n < length nodes = omega (arith, some.0, length_ids nodes) in ap (λ (z : Node). z.id) at
      ∙ sym (id_of_node nodes n y l) ∙ some.1)

  -- the table keeps its invariant
  pub table_marks : (numbers : Numbers) → IsTable nodes numbers parents → (f : Flags)
      → IsTable (set nodes n (with_marks y f)) numbers parents
  table_marks numbers t f = table_set nodes parents w q n some (with_marks y f) own_id numbers t
      (let l : n < length nodes = omega (arith, some.0, length_ids nodes) in subst (IsInRange parents) (sym at) (t.ranged n y l))

  -- the ids stay the same
  pub ids_marks : (f : Flags) → ids_of (set nodes n (with_marks y f)) ≡ ids_of nodes
  ids_marks f = ids_kept nodes parents w q n some (with_marks y f) own_id

  -- replacing a node with one with more marks adds them to its commit
  pub held_marks : y.is_found ≡ true → (flags f : Flags) → f.0 ≡ bit_or y.flags.0 flags.0
      → held_in (set nodes n (with_marks y f)) parents ≡ flagged (held_in nodes parents) q flags
  held_marks found flags f e =
      held_set nodes parents w q n some (with_marks y f) own_id found
      ∙ ap (λ (b : ℕ). finite.insert (held_in nodes parents) q
      (record { time = y.time; parents = parents_of (ids_of nodes) parents y; flags = record { 0 = b } })) e
      ∙ sym (flagged_held (held_in nodes parents) q flags (held_of (ids_of nodes) parents y) (get_numbered
      (ids_of nodes) parents nodes w q n some y at ∙ ap (λ b. cond b (Some (held_of (ids_of nodes) parents y)) None) found))
