-- Sets of ids that grow, and a set that loses an id; awaited commits are unknown.
use Rattle.std.proofs.Common.{◌≡◌, ◌⊎◌, inl, inr, ⊎_elim, ◌∙◌, ◌+◌, ◌<◌, ℕ, Bool, true, false, cond, List, [], take, get_or, length, Option, Some, refl, ap, subst, sym, true≢false}
use Rattle.std.specs.Prelude.{All}
use Rattle.std.specs.List.{list_any}
use Rattle.std.specs.BTreeMap.{is_at}
use Rattle.std.specs.BTreeSet.{BTreeSet, contains}
use Rattle.std.specs.Ordering.{eq_by_cmp}
use Rattle.std.proofs.lemmas.List.Elements.{All-weaker, All-more}
use Rattle.gixp_hash.specs.declared.object_id.ObjectId.{ObjectId}
use Rattle.gixp_hash.specs.ObjectId.{id_cmp}
use Rattle.gixp_graph.specs.Object.{Objects}
use Rattle.std.specs.FinMap as finite
use Rattle.std.specs.FinMap.{get-empty}
use Rattle.std.specs.Option.{is_some}
use Rattle.gixp_graph.specs.GraphLaws.{same_from}
use Rattle.gixp_graph.proofs.MarkLemmas.{same_id}
use Rattle.gixp_fetch_common.specs.declared.known_commits.KnownCommits.{KnownCommits}
use Rattle.gixp_fetch_common.specs.KnownCommits.{KeepsIds, HasIdsOf, IsAwaitedOrKnown, is_awaited, IsUnknown, AddsUnknown, AwaitsUnknown, AwaitsUnknownBut}
use Rattle.gixp_fetch_common.specs.SharedCommits.{AddsId}

pub keep_cond : (b x : Bool) → x ≡ true → cond b true x ≡ true
keep_cond true x h = refl
keep_cond false x h = h

pub keeps_trans : (a b c : BTreeSet ObjectId) → KeepsIds a b → KeepsIds b c → KeepsIds a c
keeps_trans a b c h k = λ id e. k id (h id e)

pub has_kept : (a b : BTreeSet ObjectId) (ids : List ObjectId) → KeepsIds a b → HasIdsOf a ids → HasIdsOf b ids
has_kept a b ids k h = All-weaker (λ id. contains id_cmp a id ≡ true) (λ id. contains id_cmp b id ≡ true) k ids h

pub has_more : (a b : BTreeSet ObjectId) (ids : List ObjectId) (k : ℕ) (d : ObjectId) → k < length ids → KeepsIds a b
    → HasIdsOf a (take k ids) → contains id_cmp b (get_or ids k d) ≡ true → HasIdsOf b (take (k + 1) ids)
has_more a b ids k d lt keeps h e = All-more (λ id. contains id_cmp b id ≡ true) ids k d lt (has_kept a b (take k ids) keeps h) e

known_kept : (read : Objects) (common a b : BTreeSet ObjectId) (id : ObjectId) → KeepsIds a b → IsAwaitedOrKnown read common a id
    → IsAwaitedOrKnown read common b id
known_kept read common a b id k h = ⊎_elim (λ e. inl (k id e)) (λ e. inr e) h

pub known_more : (read : Objects) (common a b : BTreeSet ObjectId) (ids : List ObjectId) (k : ℕ) (d : ObjectId) → k < length ids
    → KeepsIds a b → All (IsAwaitedOrKnown read common a) (take k ids) → IsAwaitedOrKnown read common b (get_or ids k d)
    → All (IsAwaitedOrKnown read common b) (take (k + 1) ids)
known_more read common a b ids k d lt keeps h e =
    All-more (IsAwaitedOrKnown read common b) ids k d lt
    (All-weaker (IsAwaitedOrKnown read common a) (IsAwaitedOrKnown read common b) (λ id. known_kept read common a b id keeps)
    (take k ids) h) e

pub removed : (key q : ObjectId) (old new : Bool) → new ≡ cond (eq_by_cmp id_cmp key q) false old → old ≡ true
    → (new ≡ true) ⊎ (key ≡ q)
removed key q old new e h = at (eq_by_cmp id_cmp key q) refl
  where
    at : (b : Bool) → eq_by_cmp id_cmp key q ≡ b → (new ≡ true) ⊎ (key ≡ q)
    at true s = inr (same_from key q s)
    at false s = inl (e ∙ ap (λ b. cond b false old) s ∙ h)

pub there_in : (o : Option (BTreeSet ObjectId)) (a : BTreeSet ObjectId) (q : ObjectId) → o ≡ Some a → is_awaited o q ≡ true
    → contains id_cmp a q ≡ true
there_in o a q e h = subst (λ x. is_awaited x q ≡ true) e h

pub added : (key q : ObjectId) (old new : Bool) → new ≡ cond (eq_by_cmp id_cmp key q) true old → new ≡ true → (old ≡ true) ⊎ (key ≡ q)
added key q old new e h = at (eq_by_cmp id_cmp key q) refl
  where
    at : (b : Bool) → eq_by_cmp id_cmp key q ≡ b → (old ≡ true) ⊎ (key ≡ q)
    at true s = inr (same_from key q s)
    at false s = inl (sym (e ∙ ap (λ b. cond b true old) s) ∙ h)

-- ---- an id that is removed

pub left_fewer : (key q : ObjectId) (old new : Bool) → new ≡ cond (eq_by_cmp id_cmp key q) false old → new ≡ true → old ≡ true
left_fewer key q old new e h = at (eq_by_cmp id_cmp key q) e
  where
    at : (b : Bool) → new ≡ cond b false old → old ≡ true
    at true s = absurd (true≢false (sym h ∙ s))
    at false s = sym s ∙ h

pub left_gone : (key : ObjectId) (old new : Bool) → new ≡ cond (eq_by_cmp id_cmp key key) false old → new ≡ false
left_gone key old new e = e ∙ ap (λ b. cond b false old) (same_id key)

-- ---- unknown commits

lacks_in : (a b : BTreeSet ObjectId) (q : ObjectId) → KeepsIds a b → contains id_cmp b q ≡ false → contains id_cmp a q ≡ false
lacks_in a b q keeps h = at (contains id_cmp a q) refl
  where
    at : (x : Bool) → contains id_cmp a q ≡ x → contains id_cmp a q ≡ false
    at true e = absurd (true≢false (sym (keeps q e) ∙ h))
    at false e = e

pub unknown_one : (read : Objects) (common old new : BTreeSet ObjectId) (id : ObjectId) → AddsId old id new
    → contains id_cmp common id ≡ false → finite.contains_key read id ≡ false → AddsUnknown read common old new
unknown_one read common old new id adds lacks unread q h =
    ⊎_elim (λ was. inl was) (λ one. inr (subst (IsUnknown read common) one (lacks, unread))) (adds q h)

pub unknown_trans : (read : Objects) (common a b c : BTreeSet ObjectId) → AddsUnknown read common a b → AddsUnknown read common b c
    → AddsUnknown read common a c
unknown_trans read common a b c h k q e = ⊎_elim (λ was. h q was) (λ new. inr new) (k q e)

-- a commit stays unknown where no commit was read or became common
still_unknown : (old new : KnownCommits) (q : ObjectId) → new.read ≡ old.read → KeepsIds new.common old.common
    → IsUnknown old.read old.common q → IsUnknown new.read new.common q
still_unknown old new q r fewer u = (lacks_in new.common old.common q fewer u.0, ap (λ m. finite.contains_key m q) r ∙ u.1)

same_ids : (a b : BTreeSet ObjectId) → a ≡ b → KeepsIds a b
same_ids a b e = λ q h. subst (λ s. contains id_cmp s q ≡ true) e h

-- an unknown commit is added to those that are awaited
pub unknown_more : (old new : KnownCommits) (a b : BTreeSet ObjectId) → new.read ≡ old.read → new.common ≡ old.common
    → old.awaited ≡ Some a → new.awaited ≡ Some b → AddsUnknown old.read old.common a b → AwaitsUnknown old → AwaitsUnknown new
unknown_more old new a b r c was is adds h q e =
    still_unknown old new q r (same_ids new.common old.common c)
    (⊎_elim (λ k. h q (subst (λ o. is_awaited o q ≡ true) (sym was) k)) (λ u. u) (adds q (there_in new.awaited b q is e)))

-- no commit is added
pub unknown_kept : (old new : KnownCommits) → new.read ≡ old.read → KeepsIds new.common old.common
    → ((q : ObjectId) → is_awaited new.awaited q ≡ true → is_awaited old.awaited q ≡ true) → AwaitsUnknown old → AwaitsUnknown new
unknown_kept old new r fewer awaits h q e = still_unknown old new q r fewer (h q (awaits q e))

-- a commit that became common isn't awaited
pub unknown_noted : (old new : KnownCommits) (id : ObjectId) → new.read ≡ old.read → AddsId old.common id new.common
    → ((q : ObjectId) → is_awaited new.awaited q ≡ true → is_awaited old.awaited q ≡ true) → is_awaited new.awaited id ≡ false
    → AwaitsUnknown old → AwaitsUnknown new
unknown_noted old new id r adds awaits gone h q e = (
  at (contains id_cmp new.common q) refl,
  ap (λ m. finite.contains_key m q) r ∙ (h q (awaits q e)).1,
)
  where
    at : (x : Bool) → contains id_cmp new.common q ≡ x → contains id_cmp new.common q ≡ false
    at true k = absurd (⊎_elim (λ was. true≢false (sym was ∙ (h q (awaits q e)).0))
        (λ one. true≢false (sym e ∙ subst (λ x. is_awaited new.awaited x ≡ false) one gone)) (adds q k))
    at false k = k

-- a commit that was read isn't awaited
pub unknown_forgotten : (old new : KnownCommits) (id : ObjectId) → new.read ≡ old.read → new.common ≡ old.common
    → ((q : ObjectId) → is_awaited new.awaited q ≡ true → is_awaited old.awaited q ≡ true) → is_awaited new.awaited id ≡ false
    → AwaitsUnknownBut old id → AwaitsUnknown new
unknown_forgotten old new id r c awaits gone h q e =
    ⊎_elim (λ u. still_unknown old new q r (same_ids new.common old.common c) u)
    (λ one. absurd (true≢false (sym e ∙ subst (λ x. is_awaited new.awaited x ≡ false) one gone))) (h q (awaits q e))

-- at first nothing is read or common
pub unknown_first : (known : KnownCommits) → known.read ≡ finite.empty → known.common.keys ≡ [] → AwaitsUnknown known
unknown_first known read common q e =
    (ap (λ ks. list_any (is_at (id_cmp q)) ks) common, ap (λ m. finite.contains_key m q) read ∙ ap is_some (get-empty id_cmp q))
