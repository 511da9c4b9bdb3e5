-- The slow reference program: what it adds is complete, and when it adds nothing, all complete commits are known.
use Rattle.std.proofs.Common.{◌≡◌, ◌+◌, ◌≤◌, ◌∙◌, Bool, true, false, not, ◌||◌, List, [], ◌∷◌, ◌++◌, Option, Some, None, refl, sym, ap, subst, arith}
use Rattle.std.specs.Prelude.{ℤ, ◌≤ℤ◌, ◌↔◌, IsTrue, IsSome, IfNone, Contains}
use Rattle.std.specs.Bool.{OnTrue, OnFalse}
use lib.Signed.{◌<ℤ◌}
use Rattle.std.proofs.lemmas.Int.{ints}
use Rattle.std.specs.List.{list_any}
use Rattle.std.specs.Ordering.{is_eq, eq_by_cmp}
use Rattle.std.proofs.lemmas.Bool.{false_from_ne_true}
use Rattle.std.proofs.lemmas.Cmp.{tied_itself}
use Rattle.std.proofs.lemmas.Map.Views.{Contains-from_any}
use Rattle.std.proofs.lemmas.List.Elements.{All-contains}
use Rattle.gixp_hash.specs.declared.object_id.ObjectId.{ObjectId}
use Rattle.gixp_hash.specs.ObjectId.{id_cmp}
use Rattle.gixp_graph.specs.Object.{Commit}
use Rattle.gixp_graph.specs.Complete.{IsComplete}
use Rattle.gixp_test_lower.specs.Slow.{AreKnown, ParentsAreKnown, IsMissingCommit, IsClosed}
use Rattle.gixp_graph.specs.Walk.{count}
use Rattle.gixp_graph.specs.CountLaws.{count_lt}
use Rattle.gixp_graph.specs.GraphLaws.{same_from}
use Rattle.gixp_hash.specs.IdLaws.{ids_total}

-- if no commit is missing, all complete commits are known
pub closed_complete : (read : ObjectId → Option Commit) (tips : List ObjectId) (cutoff : Option ℤ) (known : List ObjectId)
    → IsClosed read tips cutoff known → (id : ObjectId) → IsComplete read tips cutoff id → Contains known id
closed_complete read tips cutoff known k id (IsComplete.tip i f) =
    All-contains (λ p. IsSome (read p) → Contains known p) tips id k.tips_known i f
closed_complete read tips cutoff known k q (IsComplete.parent {id} {p} {c} {least} d r l t i f) =
    All-contains (λ x. IsSome (read x) → Contains known x) c.parents p
    (All-contains (λ q. (c : Commit) → read q ≡ Some c → least ≤ℤ c.time → AreKnown read known c.parents) known id
    (k.parents_known least l) (closed_complete read tips cutoff known k id d) c r t) i f

-- a parent of a known commit that is not older than the cutoff
pub missing_parent : (read : ObjectId → Option Commit) (tips : List ObjectId) (least : ℤ) (known : List ObjectId) (id p : ObjectId)
    (c : Commit) → Contains known id → read id ≡ Some c → least ≤ℤ c.time → Contains c.parents p → IsSome (read p)
    → ¬ (Contains known p)
    → IsMissingCommit read tips (Some least) known p
missing_parent read tips least known id p c i r t j f n =
    (f, n, λ all. IsComplete.parent (All-contains (IsComplete read tips (Some least)) known id all i) r refl t j f)

pub missing_tip : (read : ObjectId → Option Commit) (tips : List ObjectId) (cutoff : Option ℤ) (known : List ObjectId) (id : ObjectId)
    → Contains tips id → IsSome (read id) → ¬ (Contains known id) → IsMissingCommit read tips cutoff known id
missing_tip read tips cutoff known id i f n = (f, n, λ _. IsComplete.tip i f)

-- ---- the number of commits that are left

abbrev pub holds : List ObjectId → ObjectId → Bool
holds ids id = list_any (eq_by_cmp id_cmp id) ids

-- an id that the test finds is in the list
contains_held : (ids : List ObjectId) (id : ObjectId) → holds ids id ≡ true → Contains ids id
contains_held ids id h = Contains-from_any same_from id ids h

-- an id that is not in the list isn't found
not_held : (ids : List ObjectId) (id : ObjectId) → ¬ (Contains ids id) → holds ids id ≡ false
not_held ids id n = false_from_ne_true (holds ids id) (λ t. n (contains_held ids id t))

-- an id of the list stays in it
any_more : (ids : List ObjectId) (x q : ObjectId) → holds ids q ≡ true → holds (ids ++ x ∷ []) q ≡ true
any_more [] x q h = cc
any_more (y ∷ ys) x q h = at (eq_by_cmp id_cmp q y) h (any_more ys x q)
  where
    at : (b : Bool) → (b || holds ys q) ≡ true → (holds ys q ≡ true → holds (ys ++ x ∷ []) q ≡ true) → (b || holds (ys ++ x ∷ []) q) ≡ true
    at true e r = refl
    at false e r = r e

-- an appended id is in the list
any_last : (ids : List ObjectId) (x : ObjectId) → holds (ids ++ x ∷ []) x ≡ true
any_last [] x = ap (λ o. is_eq o || false) (tied_itself ids_total x)
any_last (y ∷ ys) x = at (eq_by_cmp id_cmp x y) (any_last ys x)
  where
    at : (b : Bool) → holds (ys ++ x ∷ []) x ≡ true → (b || holds (ys ++ x ∷ []) x) ≡ true
    at true r = refl
    at false r = r

-- a commit that is left was left before
fewer_left : (ids : List ObjectId) (x q : ObjectId) → not (holds (ids ++ x ∷ []) q) ≡ true → not (holds ids q) ≡ true
fewer_left ids x q h = at (holds ids q) refl
  where
    at : (b : Bool) → holds ids q ≡ b → not (holds ids q) ≡ true
    at true e = absurd (let f : not true ≡ true = ap not (sym (any_more ids x q e)) ∙ h in cc)
    at false e = ap not e

-- an appended commit lowers the number by one
pub added_less : (all known : List ObjectId) (id : ObjectId) → holds all id ≡ true → ¬ (Contains known id)
    → count (λ q. not (holds (known ++ id ∷ []) q)) all + 1 ≤ count (λ q. not (holds known q)) all
added_less all known id here n = count_lt (λ q. not (holds known q)) (λ q. not (holds (known ++ id ∷ []) q)) (fewer_left known id) id
    (ap not (not_held known id n)) (ap not (any_last known id)) all here

-- ---- tests

-- the test failed, so its property doesn't hold
pub on_not : (b : Bool) (P Q : Type 0) → IsTrue b ↔ Q → P → OnTrue (not b) (P × ¬ Q)
on_not true P Q e p = tt
on_not false P Q e p = (p, λ q. (let f : false ≡ true = e.1 q in cc))

-- a property that holds whatever the test returns
pub on_false : (b : Bool) (P : Type 0) → P → OnFalse b P
on_false true P p = tt
on_false false P p = p

-- a property of the case without a result
pub if_none : {X : Type 0} (o : Option X) (P Q : Type 0) → (P → Q) → IfNone o P → IfNone o Q
if_none None P Q f p = f p
if_none (Some x) P Q f p = tt

-- a commit older than the cutoff
pub none_before : (read : ObjectId → Option Commit) (least : ℤ) (known : List ObjectId) (id : ObjectId) (c : Commit) → read id ≡ Some c
    → c.time <ℤ least → ParentsAreKnown read least known id
none_before read least known id c r b d e t =
    let same : c ≡ d = (let s : Some c ≡ Some d = sym r ∙ e in cc) in
    let u : least ≤ℤ c.time = subst (λ (x : Commit). least ≤ℤ x.time) (sym same) t in
    absurd (omega (arith, ints))

-- a commit whose parents are known
pub parents_known : (read : ObjectId → Option Commit) (least : ℤ) (known : List ObjectId) (id : ObjectId) (c : Commit)
    → read id ≡ Some c → AreKnown read known c.parents → ParentsAreKnown read least known id
parents_known read least known id c r k d e t =
    let same : c ≡ d = (let s : Some c ≡ Some d = sym r ∙ e in cc) in
    subst (λ (x : Commit). AreKnown read known x.parents) same k

-- there is only one cutoff
pub same_cutoff : (a b : ℤ) (o : Option ℤ) → o ≡ Some a → o ≡ Some b → a ≡ b
same_cutoff a b o e f = let s : Some a ≡ Some b = sym e ∙ f in cc
