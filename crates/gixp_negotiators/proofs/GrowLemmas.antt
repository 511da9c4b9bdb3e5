-- Marks that are added.
use Rattle.std.proofs.Common.{◌≡◌, ℕ, ◌∙◌, ⊎_elim, Bool, true, false, cond, [], Option, Some, None, refl, sym, ap, subst, arith, true≢false}
use Rattle.std.specs.Prelude.{option_map, unwrap_or, ◌||◌, IsSome, is_some, bit_and, bit_or, ◌==◌, min, max}
use Rattle.std.specs.Int.{bit_at}
use Rattle.std.specs.Option.{option_map_or}
use Rattle.std.specs.Ordering.{eq_by_cmp, is_eq}
use Rattle.std.specs.FinMap as finite
use Rattle.std.specs.FinMap.{get-insert}
use Rattle.std.proofs.lemmas.Bool.{or_cases}
use Rattle.std.proofs.lemmas.Cmp.{tied_itself}
use Rattle.std.proofs.lemmas.Nat.{and_or_self, and_or_apart}
use Rattle.std.proofs.lemmas.Nat.Bits.{bit_at_and, bit_at_or, same_from_bits}
use Rattle.gixp_hash.specs.declared.object_id.ObjectId.{ObjectId}
use Rattle.gixp_hash.specs.ObjectId.{id_cmp}
use Rattle.gixp_graph.specs.declared.flags.Flags.{Flags}
use Rattle.gixp_graph.specs.GraphData.{HeldCommit, Commits, GraphData, graph_of, put, flagged, with_flags, is_marked, is_complete, parents_in}
use Rattle.gixp_graph.specs.GraphLaws.{same_from}
use Rattle.gixp_hash.specs.IdLaws.{ids_total}
use Rattle.gixp_negotiators.specs.Marks.{has_all, has_mark}
use Rattle.gixp_negotiators.specs.AddedMarks.{Grows, AddsNone, AddsOnly, MarksOnlyAsCommon}

-- bits that are set stay set
at_bits : (x y z : ℕ) → min x z ≡ z → min (max x y) z ≡ z
at_bits x y z e = grind arith

pub keeps_bits : (a m b : ℕ) → bit_and a b ≡ b → bit_and (bit_or a m) b ≡ b
keeps_bits a m b e = same_from_bits (bit_and (bit_or a m) b) b (λ i.
    let old : min (bit_at a i) (bit_at b i) ≡ bit_at b i = sym (bit_at_and a b i) ∙ ap (λ n. bit_at n i) e in
    bit_at_and (bit_or a m) b i ∙ ap (λ n. min n (bit_at b i)) (bit_at_or a m i) ∙ at_bits (bit_at a i) (bit_at m i) (bit_at b i) old)

pub same_id : (id : ObjectId) → eq_by_cmp id_cmp id id ≡ true
same_id id = ap is_eq (tied_itself ids_total id)

-- an inserted commit is found
pub get_insert_same : (m : Commits) (id : ObjectId) (h : HeldCommit) → finite.get (finite.insert m id h) id ≡ Some h
get_insert_same m id h = get-insert ids_total m id h id ∙ ap (λ b. cond b (Some h) (finite.get m id)) (same_id id)

pub grows_none : (g : GraphData) → Grows g g
grows_none g = record { objects = refl; held = λ id s. s; marks = λ b id e. e; complete = λ id. refl; parents = λ id s. refl }

-- two changes in a row
pub grows_on : (g h k : GraphData) → Grows g h → Grows h k → Grows g k
grows_on g h k v w = record {
  objects = w.objects ∙ v.objects;
  held = λ id s. w.held id (v.held id s);
  marks = λ b id e. w.marks b id (v.marks b id e);
  complete = λ id. w.complete id ∙ v.complete id;
  parents = λ id s. w.parents id (v.held id s) ∙ v.parents id s;
}

module _ (g : GraphData) (id : ObjectId) (k : HeldCommit) (keeps : (b : ℕ) → has_mark b g.held id ≡ true → has_all b k.flags.0 ≡ true)
    (same : is_complete k ≡ is_marked g.held id) (same_parents : IsSome (finite.get g.held id) → k.parents ≡ parents_in g.held id) where
  held_at : (b : Bool) (o : Option HeldCommit) → is_some o ≡ true → is_some (cond b (Some k) o) ≡ true
  held_at true o s = refl
  held_at false o s = s

  marks_at : (b : ℕ) (q : ObjectId) (c : Bool) → eq_by_cmp id_cmp q id ≡ c → has_mark b g.held q ≡ true
      → option_map_or (λ (h : HeldCommit). has_all b h.flags.0) (cond c (Some k) (finite.get g.held q)) false ≡ true
  marks_at b q true e m = keeps b (subst (λ i. has_mark b g.held i ≡ true) (same_from q id e) m)
  marks_at b q false e m = m

  complete_at : (q : ObjectId) (c : Bool) → eq_by_cmp id_cmp q id ≡ c
      → option_map_or is_complete (cond c (Some k) (finite.get g.held q)) false ≡ is_marked g.held q
  complete_at q true e = same ∙ sym (ap (is_marked g.held) (same_from q id e))
  complete_at q false e = refl

  parents_at : (q : ObjectId) (c : Bool) → eq_by_cmp id_cmp q id ≡ c → IsSome (finite.get g.held q)
      → unwrap_or (option_map (λ (h : HeldCommit). h.parents) (cond c (Some k) (finite.get g.held q))) [] ≡ parents_in g.held q
  parents_at q true e s = same_parents (subst (λ i. IsSome (finite.get g.held i)) (same_from q id e) s)
      ∙ sym (ap (parents_in g.held) (same_from q id e))
  parents_at q false e s = refl

  pub grows_insert : Grows g (graph_of g.objects (finite.insert g.held id k))
  grows_insert = record {
    objects = refl;
    held = λ q s. ap is_some (get-insert ids_total g.held id k q) ∙ held_at (eq_by_cmp id_cmp q id) (finite.get g.held q) s;
    marks = λ b q e. ap (λ (o : Option HeldCommit). option_map_or (λ (h : HeldCommit). has_all b h.flags.0) o false)
        (get-insert ids_total g.held id k q) ∙ marks_at b q (eq_by_cmp id_cmp q id) refl e;
    complete = λ q. ap (λ (o : Option HeldCommit). option_map_or is_complete o false) (get-insert ids_total g.held id k q)
        ∙ complete_at q (eq_by_cmp id_cmp q id) refl;
    parents = λ q s. ap (λ (o : Option HeldCommit). unwrap_or (option_map (λ (h : HeldCommit). h.parents) o) [])
        (get-insert ids_total g.held id k q) ∙ parents_at q (eq_by_cmp id_cmp q id) refl s;
  }

eq_itself : (a b : ℕ) → a ≡ b → (a == b) ≡ true
eq_itself a b e = grind (arith, e)

pub from_eq : (a b : ℕ) → (a == b) ≡ true → a ≡ b
from_eq a b e = grind (arith, e)

-- marks are added to a held commit
flagged_at : (g : GraphData) (id : ObjectId) (flags : Flags) → bit_and flags.0 1 ≡ 0 → (o : Option HeldCommit)
    → finite.get g.held id ≡ o → Grows g (graph_of g.objects (put g.held id (option_map (with_flags flags) o)))
flagged_at g id flags apart None e = grows_none g
flagged_at g id flags apart (Some k) e = grows_insert g id (with_flags flags k)
    (λ b m.
    let old : has_all b k.flags.0 ≡ true =
    sym (ap (λ (o : Option HeldCommit). option_map_or (λ (h : HeldCommit). has_all b h.flags.0) o false) e) ∙ m in
    eq_itself _ _ (keeps_bits k.flags.0 flags.0 b (from_eq _ _ old)))
    (ap (λ n. n == 1) (and_or_apart 1 k.flags.0 flags.0 apart) ∙ sym (ap (λ (o : Option HeldCommit). option_map_or is_complete o false) e))
    (λ s. sym (ap (λ (o : Option HeldCommit). unwrap_or (option_map (λ (h : HeldCommit). h.parents) o) []) e))

pub grows_flagged : (g : GraphData) (id : ObjectId) (flags : Flags) → bit_and flags.0 1 ≡ 0
    → Grows g (graph_of g.objects (flagged g.held id flags))
grows_flagged g id flags apart = flagged_at g id flags apart (finite.get g.held id) refl

-- the commit then has the marks
has_at : (m : Commits) (id : ObjectId) (flags : Flags) (o : Option HeldCommit) → finite.get m id ≡ o → IsSome o
    → has_mark flags.0 (put m id (option_map (with_flags flags) o)) id ≡ true
has_at m id flags None e s = cc
has_at m id flags (Some k) e s = ap (λ (o : Option HeldCommit). option_map_or (λ (h : HeldCommit). has_all flags.0 h.flags.0) o false)
    (get_insert_same m id (with_flags flags k)) ∙ eq_itself _ _ (and_or_self flags.0 k.flags.0)

pub has_flagged : (m : Commits) (id : ObjectId) (flags : Flags) → IsSome (finite.get m id) → has_mark flags.0 (flagged m id flags) id ≡ true
has_flagged m id flags s = has_at m id flags (finite.get m id) refl s

-- ---- which commits get a mark

or_left : (a b : Bool) → a ≡ true → (a || b) ≡ true
or_left true b e = refl
or_left false b e = absurd (true≢false (sym e))

or_right : (a b : Bool) → b ≡ true → (a || b) ≡ true
or_right true b e = refl
or_right false b e = e

module _ (b : ℕ) (g : GraphData) (id : ObjectId) (k : HeldCommit) where
  only_at : (q : ObjectId) (c : Bool) → eq_by_cmp id_cmp q id ≡ c → option_map_or (λ (h : HeldCommit). has_all b h.flags.0)
      (cond c (Some k) (finite.get g.held q)) false ≡ true → (has_mark b g.held q || eq_by_cmp id_cmp q id) ≡ true
  only_at q true e m = or_right (has_mark b g.held q) (eq_by_cmp id_cmp q id) e
  only_at q false e m = or_left (has_mark b g.held q) (eq_by_cmp id_cmp q id) m

  is_written : (q : ObjectId) → has_mark b (finite.insert g.held id k) q ≡ option_map_or (λ (h : HeldCommit). has_all b h.flags.0)
      (cond (eq_by_cmp id_cmp q id) (Some k) (finite.get g.held q)) false
  is_written q = ap (λ (o : Option HeldCommit). option_map_or (λ (h : HeldCommit). has_all b h.flags.0) o false)
      (get-insert ids_total g.held id k q)

  pub only_insert : AddsOnly b id g (graph_of g.objects (finite.insert g.held id k))
  only_insert q m = only_at q (eq_by_cmp id_cmp q id) refl (sym (is_written q) ∙ m)

  none_at : (has_all b k.flags.0 ≡ true → has_mark b g.held id ≡ true) → (q : ObjectId) (c : Bool) → eq_by_cmp id_cmp q id ≡ c
      → option_map_or (λ (h : HeldCommit). has_all b h.flags.0) (cond c (Some k) (finite.get g.held q)) false ≡ true
      → has_mark b g.held q ≡ true
  none_at had q true e m = subst (λ i. has_mark b g.held i ≡ true) (sym (same_from q id e)) (had m)
  none_at had q false e m = m

  pub none_insert : (has_all b k.flags.0 ≡ true → has_mark b g.held id ≡ true)
      → AddsNone b g (graph_of g.objects (finite.insert g.held id k))
  none_insert had q m = none_at had q (eq_by_cmp id_cmp q id) refl (sym (is_written q) ∙ m)

only_flagged_at : (b : ℕ) (g : GraphData) (id : ObjectId) (flags : Flags) (o : Option HeldCommit)
    → AddsOnly b id g (graph_of g.objects (put g.held id (option_map (with_flags flags) o)))
only_flagged_at b g id flags None = λ q m. or_left (has_mark b g.held q) (eq_by_cmp id_cmp q id) m
only_flagged_at b g id flags (Some k) = only_insert b g id (with_flags flags k)

pub only_flagged : (b : ℕ) (g : GraphData) (id : ObjectId) (flags : Flags) → AddsOnly b id g (graph_of g.objects (flagged g.held id flags))
only_flagged b g id flags = only_flagged_at b g id flags (finite.get g.held id)

none_flagged_at : (b : ℕ) (g : GraphData) (id : ObjectId) (flags : Flags) → bit_and flags.0 b ≡ 0 → (o : Option HeldCommit)
    → finite.get g.held id ≡ o → AddsNone b g (graph_of g.objects (put g.held id (option_map (with_flags flags) o)))
none_flagged_at b g id flags apart None e = λ q m. m
none_flagged_at b g id flags apart (Some k) e = none_insert b g id (with_flags flags k)
    (λ m. ap (λ (o : Option HeldCommit). option_map_or (λ (h : HeldCommit). has_all b h.flags.0) o false) e
    ∙ sym (ap (λ n. n == b) (and_or_apart b k.flags.0 flags.0 apart)) ∙ m)

pub none_flagged : (b : ℕ) (g : GraphData) (id : ObjectId) (flags : Flags) → bit_and flags.0 b ≡ 0
    → AddsNone b g (graph_of g.objects (flagged g.held id flags))
none_flagged b g id flags apart = none_flagged_at b g id flags apart (finite.get g.held id) refl

-- ---- parts of a set of marks

part_bit : (x y z : ℕ) → min x y ≡ y → min y z ≡ z → min x z ≡ z
part_bit x y z a b = grind arith

part_bits : (f m b : ℕ) → bit_and f m ≡ m → bit_and m b ≡ b → bit_and f b ≡ b
part_bits f m b u v = same_from_bits (bit_and f b) b (λ i.
    let first : min (bit_at f i) (bit_at m i) ≡ bit_at m i = sym (bit_at_and f m i) ∙ ap (λ n. bit_at n i) u in
    let then : min (bit_at m i) (bit_at b i) ≡ bit_at b i = sym (bit_at_and m b i) ∙ ap (λ n. bit_at n i) v in
    bit_at_and f b i ∙ part_bit (bit_at f i) (bit_at m i) (bit_at b i) first then)

part_at : (m b : ℕ) (o : Option HeldCommit) → bit_and m b ≡ b → option_map_or (λ (h : HeldCommit). has_all m h.flags.0) o false ≡ true
    → option_map_or (λ (h : HeldCommit). has_all b h.flags.0) o false ≡ true
part_at m b None v e = e
part_at m b (Some k) v e = eq_itself _ _ (part_bits k.flags.0 m b (from_eq _ _ e) v)

-- a commit with a set of marks has each part of it
pub has_part : (m b : ℕ) (held : Commits) (id : ObjectId) → bit_and m b ≡ b → has_mark m held id ≡ true → has_mark b held id ≡ true
has_part m b held id v e = part_at m b (finite.get held id) v e

-- ---- which commits get a mark in two steps

pub none_on : (b : ℕ) (g h k : GraphData) → AddsNone b g h → AddsNone b h k → AddsNone b g k
none_on b g h k a c q m = a q (c q m)

pub only_common_on : (g h k : GraphData) → MarksOnlyAsCommon g h → MarksOnlyAsCommon h k → MarksOnlyAsCommon g k
only_common_on g h k a c = record {
  sees = λ q m. a.sees q (c.sees q m);
  lists = λ q m. a.lists q (c.lists q m);
  pops = λ q m. a.pops q (c.pops q m);
}

pub only_none : (b : ℕ) (one : ObjectId) (g h k : GraphData) → AddsOnly b one g h → AddsNone b h k → AddsOnly b one g k
only_none b one g h k a c q m = a q (c q m)

pub none_only : (b : ℕ) (one : ObjectId) (g h k : GraphData) → AddsNone b g h → AddsOnly b one h k → AddsOnly b one g k
none_only b one g h k a c q m = ⊎_elim (λ was. or_left (has_mark b g.held q) (eq_by_cmp id_cmp q one) (a q was))
    (λ e. or_right (has_mark b g.held q) (eq_by_cmp id_cmp q one) e)
    (or_cases (has_mark b h.held q) (eq_by_cmp id_cmp q one) (c q m))

pub only_any : (b : ℕ) (one : ObjectId) (g h : GraphData) → AddsNone b g h → AddsOnly b one g h
only_any b one g h a q m = or_left (has_mark b g.held q) (eq_by_cmp id_cmp q one) (a q m)
