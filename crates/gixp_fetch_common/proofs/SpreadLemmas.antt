-- How common commits spread from a commit to its ancestors.
use Rattle.std.proofs.Common.{◌≡◌, inl, inr, ⊎_elim, ◌∙◌, ◌+◌, ◌<◌, ℕ, true, List, [], ◌∷◌, ◌++◌, take, drop, get_or, length, Option, Some, None, refl, subst, sym, arith, take-append-drop}
use Rattle.std.proofs.lemmas.List.{take_more}
use Rattle.std.specs.Prelude.{All, option_map, unwrap_or, IsSome}
use Rattle.std.specs.List.{Contains}
use Rattle.std.specs.BTreeSet.{BTreeSet, contains}
use Rattle.std.proofs.lemmas.List.Elements.{All-weaker, All-contains, All-nil, All-cons, All-append, All-contains_itself, Contains-push, Contains-push_cases, Contains-append_left, Contains-append_right}
use Rattle.gixp_hash.specs.declared.object_id.ObjectId.{ObjectId}
use Rattle.gixp_hash.specs.ObjectId.{id_cmp}
use Rattle.gixp_graph.specs.Object.{Objects, Commit, commit_at}
use Rattle.gixp_updates.specs.Ancestors.{IsAncestor, IsReachedFrom}
use Rattle.gixp_fetch_common.specs.declared.known_commits.KnownCommits.{KnownCommits}
use Rattle.gixp_fetch_common.specs.KnownCommits.{parents_of, KeepsIds, HasIdsOf, LosesNone, AwaitsUnknown}
use Rattle.gixp_fetch_common.specs.SharedCommits.{IsSharedBut, IsSharedWhole, AddsReached, AddsId, Shares, SharesSome, MarksSome, MarksCommon, SpreadsOn}
use Rattle.gixp_fetch_common.proofs.KnownLemmas.{has_kept, keeps_trans}

-- ---- ancestors of a commit

empty_has_none : {X A : Type 0} (x : X) → Contains [] x → A
empty_has_none x h = absurd (omega arith)

-- a commit that was read and reached is an ancestor
reached_read : (read : ObjectId → Option Commit) (id w : ObjectId) → IsReachedFrom read id w → IsSome (read w) → IsAncestor read id w
reached_read read id w IsReachedFrom.itself there = IsAncestor.itself there
reached_read read id w (IsReachedFrom.parent a is k) there = IsAncestor.parent a is k there

some_of : {A : Type 0} (o : Option A) (a : A) → o ≡ Some a → IsSome o
some_of o a e = subst IsSome (sym e) refl

pub reached_parent : (read : Objects) (id w p : ObjectId) → IsReachedFrom (commit_at read) id w → Contains (parents_of read w) p
    → IsReachedFrom (commit_at read) id p
reached_parent read id w p h k = at (commit_at read w) refl k
  where
    at : (o : Option Commit) → commit_at read w ≡ o → Contains (unwrap_or (option_map (λ (c : Commit). c.parents) o) []) p
        → IsReachedFrom (commit_at read) id p
    at None e m = empty_has_none p m
    at (Some c) e m = IsReachedFrom.parent (reached_read (commit_at read) id w h (some_of (commit_at read w) c e)) e m

-- ---- commits that are marked as common

pub loses_none_trans : (a b c : KnownCommits) → LosesNone a b → LosesNone b c → LosesNone a c
loses_none_trans a b c h k = λ id n. k id (h id n)

-- no commit
pub marks_none : (a : KnownCommits) → MarksSome a [] a
marks_none a = record { read = refl; keeps = λ _ e. e; adds = λ _ e. inl e; tracked = λ _ e. e; unknown = λ w. w }

pub marks_none_yet : (a : KnownCommits) (waiting : List ObjectId) → MarksCommon a waiting [] a waiting
marks_none_yet a waiting = record {
  has = All-nil (λ id. contains id_cmp a.common id ≡ true);
  waits = λ _ e. inl e;
  stays = λ _ k. k;
  comes = λ _ k. inl k;
}

-- some commits, and then others
pub marks_more_some : (a b c : KnownCommits) (ids more : List ObjectId) → MarksSome a ids b → MarksSome b more c
    → MarksSome a (ids ++ more) c
marks_more_some a b c ids more h k = record {
  read = k.read ∙ h.read;
  keeps = keeps_trans _ _ _ h.keeps k.keeps;
  adds = λ q e. ⊎_elim (λ old. ⊎_elim (λ first. inl first) (λ in_ids. inr (Contains-append_left ids more q in_ids)) (h.adds q old))
      (λ in_more. inr (Contains-append_right ids more q in_more)) (k.adds q e);
  tracked = loses_none_trans a b c h.tracked k.tracked;
  unknown = λ w. k.unknown (h.unknown w);
}

pub marks_more : (a b c : KnownCommits) (waiting mid later ids more : List ObjectId) → MarksSome b more c → MarksCommon a waiting ids b mid
    → MarksCommon b mid more c later → MarksCommon a waiting (ids ++ more) c later
marks_more a b c waiting mid later ids more s h k = record {
  has = All-append (λ id. contains id_cmp c.common id ≡ true) ids more (has_kept b.common c.common ids s.keeps h.has) k.has;
  waits = λ q e. ⊎_elim (λ old. ⊎_elim (λ first. inl first) (λ waits. inr (k.stays q waits)) (h.waits q old)) (λ waits. inr waits)
      (k.waits q e);
  stays = λ q e. k.stays q (h.stays q e);
  comes = λ q e. ⊎_elim (λ before. ⊎_elim (λ first. inl first) (λ in_ids. inr (Contains-append_left ids more q in_ids)) (h.comes q before))
      (λ in_more. inr (Contains-append_right ids more q in_more)) (k.comes q e);
}

-- some of the ids were marked
pub marks_some_of : (a b : KnownCommits) (ids all : List ObjectId) → ((q : ObjectId) → Contains ids q → Contains all q) → MarksSome a ids b
    → MarksSome a all b
marks_some_of a b ids all within h = record {
  read = h.read;
  keeps = h.keeps;
  adds = λ q e. ⊎_elim (λ old. inl old) (λ k. inr (within q k)) (h.adds q e);
  tracked = h.tracked;
  unknown = h.unknown;
}

-- a commit that was common already
pub marks_old : (old new : KnownCommits) (waiting : List ObjectId) (id : ObjectId) → contains id_cmp new.common id ≡ true
    → KeepsIds new.common old.common → MarksCommon old waiting (id ∷ []) new waiting
marks_old old new waiting id there same = record {
  has = All-cons (λ q. contains id_cmp new.common q ≡ true) id [] there (All-nil (λ q. contains id_cmp new.common q ≡ true));
  waits = λ q e. inl (same q e);
  stays = λ q k. k;
  comes = λ q k. inl k;
}

-- a commit that became common
pub marks_new : (old new : KnownCommits) (set : BTreeSet ObjectId) (waiting later : List ObjectId) (id : ObjectId) → new.common ≡ set
    → contains id_cmp set id ≡ true → AddsId old.common id set → later ≡ waiting ++ id ∷ [] → MarksCommon old waiting (id ∷ []) new later
marks_new old new set waiting later id same there adds is =
    let is_there : contains id_cmp new.common id ≡ true = subst (λ s. contains id_cmp s id ≡ true) (sym same) there in
    let waits_now : Contains later id = subst (λ l. Contains l id) (sym is) (Contains-push waiting id) in
    record {
      has = All-cons (λ q. contains id_cmp new.common q ≡ true) id [] is_there (All-nil (λ q. contains id_cmp new.common q ≡ true));
      waits = λ q e. ⊎_elim (λ was. inl was) (λ one. inr (subst (λ x. Contains later x) one waits_now))
          (adds q (subst (λ s. contains id_cmp s q ≡ true) same e));
      stays = λ q k. subst (λ l. Contains l q) (sym is) (Contains-append_left waiting (id ∷ []) q k);
      comes = λ q k. ⊎_elim (λ before. inl before) (λ one. inr (subst (λ x. Contains (id ∷ []) x) one (Contains-push [] id)))
          (Contains-push_cases waiting id q (subst (λ l. Contains l q) is k));
    }

-- the first of some ids, and then the next
pub marked_more : (a b c : KnownCommits) (ids : List ObjectId) (k : ℕ) (d : ObjectId) (waiting mid later : List ObjectId) → k < length ids
    → MarksSome a (take k ids) b → MarksCommon a waiting (take k ids) b mid → MarksSome b (get_or ids k d ∷ []) c
    → MarksCommon b mid (get_or ids k d ∷ []) c later → MarksSome a (take (k + 1) ids) c × MarksCommon a waiting (take (k + 1) ids) c later
marked_more a b c ids k d waiting mid later lt s h n m = (
  subst (λ l. MarksSome a l c) (sym (take_more ids k d lt)) (marks_more_some a b c (take k ids) (get_or ids k d ∷ []) s n),
  subst (λ l. MarksCommon a waiting l c later) (sym (take_more ids k d lt))
      (marks_more a b c waiting mid later (take k ids) (get_or ids k d ∷ []) n h m),
)

pub marked_part : (a b c : KnownCommits) (ids : List ObjectId) (k : ℕ) (d : ObjectId) → k < length ids → MarksSome a (take k ids) b
    → MarksSome b (get_or ids k d ∷ []) c → MarksSome a ids c
marked_part a b c ids k d lt s n =
    marks_some_of a c (take k ids ++ get_or ids k d ∷ []) ids (λ q h. subst (λ l. Contains l q) (take-append-drop (k + 1) ids)
    (Contains-append_left (take (k + 1) ids) (drop (k + 1) ids) q (subst (λ l. Contains l q) (sym (take_more ids k d lt)) h)))
    (marks_more_some a b c (take k ids) (get_or ids k d ∷ []) s n)

-- ---- commits that wait

pub spreads_none : (read : Objects) (common : BTreeSet ObjectId) (waiting : List ObjectId) → SpreadsOn read common waiting common waiting
spreads_none read common waiting = record { adds = λ _ _ q e. inl e; reached = λ _ h. h; whole = λ h. h }

pub spreads_trans : (read : Objects) (a b c : BTreeSet ObjectId) (first mid later : List ObjectId) → SpreadsOn read a first b mid
    → SpreadsOn read b mid c later → SpreadsOn read a first c later
spreads_trans read a b c first mid later h k = record {
  adds = λ id r q e. ⊎_elim (λ old. h.adds id r q old) (λ new. inr new) (k.adds id (h.reached id r) q e);
  reached = λ id r. k.reached id (h.reached id r);
  whole = λ w. k.whole (h.whole w);
}

-- the parents of a reached commit are reached
parents_reached : (read : Objects) (id next : ObjectId) → IsReachedFrom (commit_at read) id next
    → All (IsReachedFrom (commit_at read) id) (parents_of read next)
parents_reached read id next h =
    All-weaker (Contains (parents_of read next)) (IsReachedFrom (commit_at read) id) (λ p k. reached_parent read id next p h k)
    (parents_of read next) (All-contains_itself (parents_of read next))

last_reached : (read : Objects) (id next : ObjectId) (rest : List ObjectId) → All (IsReachedFrom (commit_at read) id) (rest ++ next ∷ [])
    → IsReachedFrom (commit_at read) id next
last_reached read id next rest r = All-contains (IsReachedFrom (commit_at read) id) (rest ++ next ∷ []) next r (Contains-push rest next)

-- some parents of a waiting commit became common
pub adds_parents : (read : Objects) (old new : KnownCommits) (id next : ObjectId) (rest : List ObjectId)
    → MarksSome old (parents_of read next) new → All (IsReachedFrom (commit_at read) id) (rest ++ next ∷ [])
    → AddsReached read id old.common new.common
adds_parents read old new id next rest n r = λ q e. ⊎_elim (λ was. inl was)
    (λ k. inr (reached_parent read id next q (last_reached read id next rest r) k)) (n.adds q e)

-- the parents of the last waiting commit become common, and wait in its place
pub spreads_one : (read : Objects) (old new : KnownCommits) (next : ObjectId) (rest later : List ObjectId)
    → MarksSome old (parents_of read next) new → MarksCommon old rest (parents_of read next) new later
    → SpreadsOn read old.common (rest ++ next ∷ []) new.common later
spreads_one read old new next rest later n h = record {
  adds = λ id r. adds_parents read old new id next rest n r;
  reached = λ id r. All-weaker (Contains later) (IsReachedFrom (commit_at read) id)
      (λ p k. ⊎_elim (λ before. All-contains (IsReachedFrom (commit_at read) id) (rest ++ next ∷ []) p r
      (Contains-append_left rest (next ∷ []) p before))
      (λ is. reached_parent read id next p (last_reached read id next rest r) is) (h.comes p k)) later (All-contains_itself later);
  whole = λ w q e. ⊎_elim
      (λ old_common. ⊎_elim (λ has. inl (has_kept old.common new.common (parents_of read q) n.keeps has))
      (λ waits. ⊎_elim (λ before. inr (h.stays q before))
      (λ is. inl (subst (λ x. HasIdsOf new.common (parents_of read x)) is h.has)) (Contains-push_cases rest next q waits)) (w q old_common))
      (λ waits. inr waits) (h.waits q e);
}

-- where no commit waits, all ancestors are common
pub shared_whole : (read : Objects) (common : BTreeSet ObjectId) (waiting : List ObjectId) → waiting ≡ [] → IsSharedBut read common waiting
    → IsSharedWhole read common
shared_whole read common waiting e h = λ id k. ⊎_elim (λ has. has) (λ waits. empty_has_none id (subst (λ l. Contains l id) e waits))
    (h id k)

-- the parents of one more waiting commit become common
pub shared_more : (read : Objects) (start : BTreeSet ObjectId) (first : List ObjectId) (old new : KnownCommits)
    (now rest later : List ObjectId) (next : ObjectId) → old.read ≡ read → SpreadsOn read start first old.common now
    → now ≡ rest ++ next ∷ [] → MarksSome old (parents_of old.read next) new → MarksCommon old rest (parents_of old.read next) new later
    → SpreadsOn read start first new.common later
shared_more read start first old new now rest later next same h is n m =
    spreads_trans read start old.common new.common first now later h
    (subst (λ l. SpreadsOn read old.common l new.common later) (sym is)
    (spreads_one read old new next rest later (subst (λ r. MarksSome old (parents_of r next) new) same n)
    (subst (λ r. MarksCommon old rest (parents_of r next) new later) same m)))

pub shared_part : (read : Objects) (start : BTreeSet ObjectId) (first : List ObjectId) (old new : KnownCommits)
    (now rest : List ObjectId) (next : ObjectId) → old.read ≡ read → SpreadsOn read start first old.common now → now ≡ rest ++ next ∷ []
    → MarksSome old (parents_of old.read next) new → (id : ObjectId) → All (IsReachedFrom (commit_at read) id) first
    → AddsReached read id start new.common
shared_part read start first old new now rest next same h is n id r = λ q e. ⊎_elim (λ was. h.adds id r q was) (λ reached. inr reached)
    (adds_parents read old new id next rest (subst (λ r. MarksSome old (parents_of r next) new) same n)
    (subst (λ l. All (IsReachedFrom (commit_at read) id) l) is (h.reached id r)) q e)

itself_reached : (read : Objects) (id : ObjectId) → All (IsReachedFrom (commit_at read) id) (id ∷ [])
itself_reached read id =
    All-cons (IsReachedFrom (commit_at read) id) id [] IsReachedFrom.itself (All-nil (IsReachedFrom (commit_at read) id))

-- the parents of a commit
pub shares_parents : (old new : KnownCommits) (id : ObjectId) → MarksSome old (parents_of old.read id) new → SharesSome old id new
shares_parents old new id n = record {
  read = n.read;
  keeps = n.keeps;
  adds = adds_parents old.read old new id id [] n (itself_reached old.read id);
  tracked = n.tracked;
  unknown = n.unknown;
}

-- and their ancestors
pub shares_some : (old mid new : KnownCommits) (id : ObjectId) (none later : List ObjectId) → none ≡ []
    → MarksSome old (parents_of old.read id) mid → MarksCommon old none (parents_of old.read id) mid later → new.read ≡ mid.read
    → KeepsIds mid.common new.common → LosesNone mid new → (AwaitsUnknown mid → AwaitsUnknown new)
    → ((i : ObjectId) → All (IsReachedFrom (commit_at mid.read) i) later → AddsReached mid.read i mid.common new.common)
    → SharesSome old id new
shares_some old mid new id none later is n m same keeps tracked unknown adds =
    let first : SpreadsOn old.read old.common (id ∷ []) mid.common later =
    spreads_one old.read old mid id [] later n (subst (λ l. MarksCommon old l (parents_of old.read id) mid later) is m) in
    let reached : All (IsReachedFrom (commit_at mid.read) id) later =
    subst (λ r. All (IsReachedFrom (commit_at r) id) later) (sym n.read) (first.reached id (itself_reached old.read id)) in
    record {
      read = same ∙ n.read;
      keeps = keeps_trans _ _ _ n.keeps keeps;
      adds = λ q e. ⊎_elim (λ was. first.adds id (itself_reached old.read id) q was)
          (λ new_one. inr (subst (λ r. IsReachedFrom (commit_at r) id q) n.read new_one)) (adds id reached q e);
      tracked = loses_none_trans old mid new n.tracked tracked;
      unknown = λ w. unknown (n.unknown w);
    }

pub shares_all : (old mid new : KnownCommits) (id : ObjectId) (none later : List ObjectId) → none ≡ []
    → MarksSome old (parents_of old.read id) mid → MarksCommon old none (parents_of old.read id) mid later
    → KeepsIds mid.common new.common → (IsSharedBut mid.read mid.common later → IsSharedWhole new.read new.common) → Shares old id new
shares_all old mid new id none later is n m keeps whole =
    let first : SpreadsOn old.read old.common (id ∷ []) mid.common later =
    spreads_one old.read old mid id [] later n (subst (λ l. MarksCommon old l (parents_of old.read id) mid later) is m) in
    record {
      parents = has_kept mid.common new.common (parents_of old.read id) keeps m.has;
      whole = λ w. whole (subst (λ r. IsSharedBut r mid.common later) (sym n.read) (first.whole w));
    }
