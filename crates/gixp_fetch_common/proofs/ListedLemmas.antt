-- Lines of a text of commits, one after the other.
use Rattle.std.proofs.Common.{◌≡◌, ◌⊎◌, inl, inr, ⊎_elim, ◌∙◌, ◌+◌, ◌-◌, ◌<◌, ℕ, ℤ, Bool, true, false, cond, zero, suc, List, [], ◌∷◌, ◌++◌, length, drop, Option, Some, None, refl, ap, subst, sym, arith, append_assoc, append-nil, true≢false}
use Rattle.std.specs.Prelude.{All, IfSome, not, option_map, option_and_then, unwrap_or, is_some, slice_get}
use Rattle.std.specs.List.{Contains}
use lib.Dec.{eqb}
use Rattle.std.specs.Ordering.{eq_by_cmp}
use Rattle.std.specs.BTreeSet.{BTreeSet, contains}
use Rattle.std.specs.FinMap as finite
use Rattle.std.specs.FinMap.{get-insert}
use Rattle.std.specs.Io.BufRead.{strip_last, take_through, drop_through, DropsThrough}
use Rattle.std.specs.Io.KnownBytes.{IsAtEnd}
use Rattle.std.proofs.lemmas.List.Elements.{All-weaker, All-nil, All-cons, All-append, Contains-push, Contains-push_cases}
use Rattle.std.proofs.lemmas.List.{length-append}
use Rattle.std.proofs.lemmas.Option.{none-some}
use Rattle.gixp_hash.specs.declared.object_id.ObjectId.{ObjectId}
use Rattle.gixp_hash.specs.ObjectId.{id_cmp}
use Rattle.gixp_hash.specs.IdLaws.{ids_total}
use Rattle.gixp_graph.specs.GraphLaws.{same_from}
use Rattle.gixp_graph.proofs.MarkLemmas.{same_id}
use Rattle.gixp_graph.specs.Object.{Objects, Object, Commit, commit_at}
use Rattle.gixp_graph.specs.declared.objects.ObjectKind.TheVariants as kind
use Rattle.gixp_updates.specs.Ancestors.{IsReachedFrom}
use Rattle.gixp_utils.specs.Lines.{text_lines, line_words}
use Rattle.gixp_memory.specs.Text.{after_lines, BeginsUnread}
use Rattle.gixp_memory.specs.Repository.{named_id, named_ids, seconds, commit_of_words, commit_line, with_commit}
use Rattle.gixp_fetch_common.specs.declared.listed_commits.CommitText.{CommitText}
use Rattle.gixp_fetch_common.specs.declared.known_commits.KnownCommits.{KnownCommits}
use Rattle.gixp_fetch_common.specs.KnownCommits.{parents_of, is_awaited, KeepsIds, HasIdsOf, IsTracked, LosesNone, AreAwaitedOrKnown, AwaitsNone, AwaitsUnknown, AwaitsUnknownBut}
use Rattle.gixp_fetch_common.specs.SharedCommits.{IsSharedBut, IsSharedWhole, SharesSome}
use Rattle.gixp_fetch_common.specs.ListedCommits.{id_in, IsNoCommit, ReadsTextLines, HasLines, IsCommonLine, ReadsCommit, IsUncommon, PassesLines, OffersCommit, OffersNothing}
use Rattle.gixp_fetch_common.proofs.SpreadLemmas.{loses_none_trans}
use Rattle.gixp_fetch_common.proofs.FirstLineLemmas.{first_line_of}

-- ---- lines of a text

some_first : (xs : List ℕ) → 0 < length (take_through 10 xs) → 0 < length xs
some_first [] h = absurd (omega (arith, h))
some_first (x ∷ xs) h = omega arith

-- at least one byte was read
pub counted : (count n m : ℕ) → not (eqb count 0) ≡ true → n ≡ m + count → 0 < n
counted zero n m h e = absurd (true≢false (sym h))
counted (suc k) n m h e = omega (arith, e)

-- the first line is read
pub line_read : (before after : Option (List ℕ)) (old line : List ℕ) → old ≡ [] → 0 < length line
    → IfSome before (λ xs. line ≡ old ++ take_through 10 xs) → DropsThrough before after 10
    → ReadsTextLines before (strip_last 10 line ∷ []) after
line_read None after old line none some is following = tt
line_read (Some xs) None old line none some is following = absurd (none-some _ following)
line_read (Some xs) (Some rest) old line none some is following =
    let whole : line ≡ take_through 10 xs = is ∙ ap (λ l. l ++ take_through 10 xs) none in
    let left : rest ≡ drop_through 10 xs = cc in
    first_line_of xs (some_first xs (subst (λ l. 0 < length l) whole some))
    ∙ ap (λ l. strip_last 10 l ∷ text_lines (drop_through 10 xs)) (sym whole)
    ∙ ap (λ l. strip_last 10 line ∷ text_lines l) (sym left)

reads_none : (text : Option (List ℕ)) → ReadsTextLines text [] text
reads_none None = tt
reads_none (Some text) = refl

reads_more : (a b c : Option (List ℕ)) (lines more : List (List ℕ)) → ReadsTextLines a lines b → ReadsTextLines b more c
    → ReadsTextLines a (lines ++ more) c
reads_more None b c lines more h k = tt
reads_more (Some x) None c lines more h k = absurd h
reads_more (Some x) (Some y) None lines more h k = absurd k
reads_more (Some x) (Some y) (Some z) lines more h k = h ∙ ap (λ l. lines ++ l) k ∙ sym (append_assoc lines more (text_lines z))

-- the end of the text
reads_all : (a b : Option (List ℕ)) (lines : List (List ℕ)) → ReadsTextLines a lines b → IsAtEnd b → HasLines a lines
reads_all None b lines h e = tt
reads_all (Some x) None lines h e = absurd h
reads_all (Some x) (Some y) lines h e = h ∙ ap (λ l. lines ++ text_lines l) e ∙ append-nil lines

-- ---- one line

and_then_some : {A : Type 0} (o : Option A) (a : A) → option_and_then (λ x. Some x) o ≡ Some a → o ≡ Some a
and_then_some None a h = absurd (none-some a h)
and_then_some (Some x) a h = h

pub after_one : (old new : Objects) (lines : List (List ℕ)) (line : List ℕ) → lines ≡ line ∷ []
    → after_lines commit_line old lines ≡ Some new
    → commit_line old line ≡ Some new
after_one old new lines line is h = and_then_some (commit_line old line) new (subst (λ l. after_lines commit_line old l ≡ Some new) is h)

map_none : {A B : Type 0} (f : A → B) (o : Option A) → option_map f o ≡ None → o ≡ None
map_none f None h = refl
map_none f (Some a) h = absurd (none-some (f a) (sym h))

nothing_unread : (new : Objects) (k : ℕ) → BeginsUnread commit_line new (drop k []) → ⊥
nothing_unread new zero h = h
nothing_unread new (suc k) h = h

pub unread_one : (new : Objects) (lines : List (List ℕ)) (line : List ℕ) (n : ℕ) → lines ≡ line ∷ [] → 0 < n
    → BeginsUnread commit_line new (drop (n - 1) lines) → commit_of_words (line_words line) ≡ None
unread_one new lines line n is some h = at n some (subst (λ l. BeginsUnread commit_line new (drop (n - 1) l)) is h)
  where
    at : (m : ℕ) → 0 < m → BeginsUnread commit_line new (drop (m - 1) (line ∷ [])) → commit_of_words (line_words line) ≡ None
    at zero l k = absurd (omega (arith, l))
    at (suc zero) l k = map_none (λ e. with_commit new e.0 e.1) (commit_of_words (line_words line)) k
    at (suc (suc m)) l k =
        let less : suc (suc m) - 1 ≡ suc m = omega arith in
        absurd (nothing_unread new m (subst (λ j. BeginsUnread commit_line new (drop j (line ∷ []))) less k))

abbrev entry : ℤ → ObjectId → List ObjectId → ObjectId × Commit
entry t i ps = (i, record { time = t; parents = ps })

-- a line without an id is no commit
no_id : (words : List (List ℕ)) → option_and_then named_id (slice_get words 1) ≡ None → commit_of_words words ≡ None
no_id [] h = refl
no_id (time ∷ []) h = refl
no_id (time ∷ word ∷ parents) h = at (seconds time)
  where
    at : (t : Option ℤ) → option_and_then (λ t. option_and_then (λ i. option_map (entry t i) (named_ids parents)) (named_id word)) t ≡ None
    at None = refl
    at (Some t) = ap (λ o. option_and_then (λ i. option_map (entry t i) (named_ids parents)) o) h

pub line_without_id : (line : List ℕ) (id : Option ObjectId) → id ≡ id_in (strip_last 10 line) → id ≡ None → IsNoCommit line
line_without_id line id is none = no_id (line_words (strip_last 10 line)) (sym is ∙ none)

-- a line adds the commit of its id
added_by : (old new : Objects) (words : List (List ℕ)) (id : ObjectId)
    → option_map (λ (e : ObjectId × Commit). with_commit old e.0 e.1) (commit_of_words words) ≡ Some new
    → option_and_then named_id (slice_get words 1) ≡ Some id → (c : Commit) × (new ≡ with_commit old id c)
added_by old new [] id h k = absurd (none-some new h)
added_by old new (time ∷ []) id h k = absurd (none-some new h)
added_by old new (time ∷ word ∷ parents) id h k = at (seconds time) (named_ids parents) (named_id word) k h
  where
    at : (t : Option ℤ) (ps : Option (List ObjectId)) (w : Option ObjectId) → w ≡ Some id
        → option_map (λ (e : ObjectId × Commit). with_commit old e.0 e.1)
        (option_and_then (λ t. option_and_then (λ i. option_map (entry t i) ps) w) t) ≡ Some new
        → (c : Commit) × (new ≡ with_commit old id c)
    at None ps w e g = absurd (none-some new g)
    at (Some t) ps None e g = absurd (none-some id e)
    at (Some t) None (Some i) e g = absurd (none-some new g)
    at (Some t) (Some ps) (Some i) e g =
        let same : i ≡ id = cc in
        let is : with_commit old i (record { time = t; parents = ps }) ≡ new = cc in
        (record { time = t; parents = ps }, sym is ∙ ap (λ x. with_commit old x (record { time = t; parents = ps })) same)

commit_added : (old new : Objects) (line : List ℕ) (id : ObjectId) → commit_line old line ≡ Some new → id_in line ≡ Some id
    → (c : Commit) × (new ≡ with_commit old id c)
commit_added old new line id h k = added_by old new (line_words line) id h k

module _ (old : Objects) (id : ObjectId) (c : Commit) where
  abbrev held : Object
  held = record { kind = Some kind.Commit; commit = Some c }

  got : (q : ObjectId) → finite.get (with_commit old id c) q ≡ cond (eq_by_cmp id_cmp q id) (Some held) (finite.get old q)
  got q = get-insert ids_total old id held q

  key_stays : (q : ObjectId) → finite.contains_key old q ≡ true → finite.contains_key (with_commit old id c) q ≡ true
  key_stays q h = ap is_some (got q) ∙ at (eq_by_cmp id_cmp q id)
    where
      at : (b : Bool) → is_some (cond b (Some held) (finite.get old q)) ≡ true
      at true = refl
      at false = h

  key_lacks : (q : ObjectId) → eq_by_cmp id_cmp q id ≡ false → finite.contains_key old q ≡ false
      → finite.contains_key (with_commit old id c) q ≡ false
  key_lacks q s h = ap is_some (got q) ∙ (ap (λ b. is_some (cond b (Some held) (finite.get old q))) s ∙ h)

  parents_stay : (q : ObjectId) → eq_by_cmp id_cmp q id ≡ false → parents_of (with_commit old id c) q ≡ parents_of old q
  parents_stay q s = ap (λ o. unwrap_or (option_map (λ (c : Commit). c.parents) (option_and_then (λ (o : Object). o.commit) o)) [])
      (got q ∙ ap (λ b. cond b (Some held) (finite.get old q)) s)

  shared_added : (common : BTreeSet ObjectId) → IsSharedWhole old common → IsSharedBut (with_commit old id c) common (id ∷ [])
  shared_added common h q k = at (eq_by_cmp id_cmp q id) refl
    where
      at : (b : Bool) → eq_by_cmp id_cmp q id ≡ b → HasIdsOf common (parents_of (with_commit old id c) q) ⊎ Contains (id ∷ []) q
      at true s = inr (subst (λ x. Contains (x ∷ []) q) (same_from q id s) (Contains-push [] q))
      at false s = inl (subst (HasIdsOf common) (sym (parents_stay q s)) (h q k))

-- the commit is present then
key_there : (old : Objects) (id : ObjectId) (c : Commit) → finite.contains_key (with_commit old id c) id ≡ true
key_there old id c = ap is_some (got old id c id) ∙ ap (λ b. is_some (cond b (Some (held old id c)) (finite.get old id))) (same_id id)

-- ---- a commit that is read

pub commit_there : (before after : Option (List ℕ)) (old new : KnownCommits) (id : ObjectId) → ReadsCommit before old id after new
    → finite.contains_key new.read id ≡ true
commit_there before after old new id h =
    let a = commit_added old.read new.read h.line id h.added h.named in
    subst (λ r. finite.contains_key r id ≡ true) (sym a.1) (key_there old.read id a.0)

commit_noted : (before after : Option (List ℕ)) (old new : KnownCommits) (id : ObjectId) → ReadsCommit before old id after new
    → new.common ≡ old.common → new.awaited ≡ old.awaited → LosesNone old new
commit_noted before after old new id h c w =
    let a = commit_added old.read new.read h.line id h.added h.named in
    λ q n. ⊎_elim (λ awaits. inl (subst (λ o. is_awaited o q ≡ true) (sym w) awaits))
    (λ n. ⊎_elim (λ common. inr (inl (subst (λ s. contains id_cmp s q ≡ true) (sym c) common)))
    (λ there. inr (inr (subst (λ r. finite.contains_key r q ≡ true) (sym a.1) (key_stays old.read id a.0 q there)))) n) n

commit_unknown : (before after : Option (List ℕ)) (old new : KnownCommits) (id : ObjectId) → ReadsCommit before old id after new
    → new.common ≡ old.common → new.awaited ≡ old.awaited → AwaitsUnknown old → AwaitsUnknownBut new id
commit_unknown before after old new id h c w unknown q e = at (eq_by_cmp id_cmp q id) refl
  where
    at : (b : Bool) → eq_by_cmp id_cmp q id ≡ b
        → ((contains id_cmp new.common q ≡ false) × (finite.contains_key new.read q ≡ false)) ⊎ (id ≡ q)
    at true s = inr (sym (same_from q id s))
    at false s =
        let a = commit_added old.read new.read h.line id h.added h.named in
        let was = unknown q (subst (λ o. is_awaited o q ≡ true) w e) in
        inl (
          ap (λ s. contains id_cmp s q) c ∙ was.0,
          ap (λ r. finite.contains_key r q) a.1 ∙ key_lacks old.read id a.0 q s was.1,
        )

commit_shared : (before after : Option (List ℕ)) (old new : KnownCommits) (id : ObjectId) → ReadsCommit before old id after new
    → new.common ≡ old.common → IsSharedWhole old.read old.common → IsSharedBut new.read new.common (id ∷ [])
commit_shared before after old new id h c s =
    let a = commit_added old.read new.read h.line id h.added h.named in
    subst (λ r. IsSharedBut r new.common (id ∷ [])) (sym a.1) (shared_added old.read id a.0 new.common
    (subst (IsSharedWhole old.read) (sym c) s))

-- ---- offered commits, and others

-- the ancestors of a commit that isn't common needn't be marked
pub shared_uncommon : (read : Objects) (common : BTreeSet ObjectId) (id : ObjectId) → contains id_cmp common id ≡ false
    → IsSharedBut read common (id ∷ []) → IsSharedWhole read common
shared_uncommon read common id lacks h q k = ⊎_elim (λ has. has) (λ w. absurd (is_no w)) (h q k)
  where
    is_no : Contains (id ∷ []) q → ⊥
    is_no w = ⊎_elim (λ none. nothing none) (λ same. let e : contains id_cmp common id ≡ true = subst
        (λ x. contains id_cmp common x ≡ true) (sym same) k in
        true≢false (sym e ∙ lacks)) (Contains-push_cases [] id q w)
      where
        nothing : Contains [] q → ⊥
        nothing n = absurd (omega arith)

-- a commit that was read needn't be awaited
pub forget_loses : (old new : KnownCommits) (id : ObjectId) → new.read ≡ old.read → new.common ≡ old.common
    → ((q : ObjectId) → is_awaited old.awaited q ≡ true → (is_awaited new.awaited q ≡ true) ⊎ (id ≡ q))
    → finite.contains_key old.read id ≡ true → LosesNone old new
forget_loses old new id r c others there q n =
    let read_q : (q : ObjectId) → finite.contains_key old.read q ≡ true → IsTracked new q =
    λ q k. inr (inr (subst (λ m. finite.contains_key m q ≡ true) (sym r) k)) in
    ⊎_elim (λ awaits. ⊎_elim (λ still. inl still) (λ same. subst (IsTracked new) same (read_q id there)) (others q awaits))
    (λ n. ⊎_elim (λ common. inr (inl (subst (λ s. contains id_cmp s q ≡ true) (sym c) common))) (λ k. read_q q k) n) n

-- more may be awaited
pub awaits_loses : (old new : KnownCommits) → new.read ≡ old.read → new.common ≡ old.common
    → ((q : ObjectId) → is_awaited old.awaited q ≡ true → is_awaited new.awaited q ≡ true) → LosesNone old new
awaits_loses old new r c keeps q n = ⊎_elim (λ awaits. inl (keeps q awaits))
    (λ n. ⊎_elim (λ common. inr (inl (subst (λ s. contains id_cmp s q ≡ true) (sym c) common)))
    (λ there. inr (inr (subst (λ m. finite.contains_key m q ≡ true) (sym r) there))) n) n

-- no commit becomes common
pub shares_nothing : (old new : KnownCommits) (id : ObjectId) → new.read ≡ old.read → new.common ≡ old.common → LosesNone old new
    → (AwaitsUnknown old → AwaitsUnknown new) → SharesSome old id new
shares_nothing old new id r c l u = record {
  read = r;
  keeps = λ q e. subst (λ s. contains id_cmp s q ≡ true) (sym c) e;
  adds = λ q e. inl (subst (λ s. contains id_cmp s q ≡ true) c e);
  tracked = l;
  unknown = u;
}

-- the same after a step that makes no commit common
pub shares_after : (old mid new : KnownCommits) (id : ObjectId) → mid.read ≡ old.read → mid.common ≡ old.common → LosesNone old mid
    → (AwaitsUnknown old → AwaitsUnknown mid) → SharesSome mid id new → SharesSome old id new
shares_after old mid new id r c l u h =
    record {
      read = h.read ∙ r;
      keeps = λ q e. h.keeps q (subst (λ s. contains id_cmp s q ≡ true) (sym c) e);
      adds = λ q e. ⊎_elim (λ was. inl (subst (λ s. contains id_cmp s q ≡ true) c was))
          (λ new_one. inr (subst (λ m. IsReachedFrom (commit_at m) id q) r new_one)) (h.adds q e);
      tracked = loses_none_trans old mid new l h.tracked;
      unknown = λ w. h.unknown (u w);
    }

-- lines were passed over so far, and count as read
pub record PassedSoFar {R : Type 0} (remaining : R → Option (List ℕ)) (old now : CommitText R) : Type 0 where
  pub lines : List (List ℕ)
  pub read : ReadsTextLines (remaining old.text) lines (remaining now.text)
  pub passes : PassesLines old.known lines now.known
  pub spent : now.left + length lines ≡ old.left

pub passed_none : {R : Type 0} (remaining : R → Option (List ℕ)) (now : CommitText R) → PassedSoFar remaining now now
passed_none remaining now = record {
  lines = [];
  read = reads_none (remaining now.text);
  passes = record { added = refl; passed = All-nil (IsCommonLine now.known.common); tracked = λ _ n. n; unknown = λ w. w; whole = λ h. h };
  spent = omega arith;
}

after_more : (lines : List (List ℕ)) (line : List ℕ) (s mid new : Objects) → after_lines commit_line s lines ≡ Some mid
    → commit_line mid line ≡ Some new → after_lines commit_line s (lines ++ line ∷ []) ≡ Some new
after_more [] line s mid new h k =
    let same : s ≡ mid = cc in
    ap (λ o. option_and_then (λ t. Some t) o) (ap (λ m. commit_line m line) same ∙ k)
after_more (x ∷ xs) line s mid new h k = at (commit_line s x) h (λ t g. after_more xs line t mid new g k)
  where
    at : (o : Option Objects) → option_and_then (λ t. after_lines commit_line t xs) o ≡ Some mid
        → ((t : Objects) → after_lines commit_line t xs ≡ Some mid → after_lines commit_line t (xs ++ line ∷ []) ≡ Some new)
        → option_and_then (λ t. after_lines commit_line t (xs ++ line ∷ [])) o ≡ Some new
    at None g r = absurd (none-some mid g)
    at (Some t) g r = r t g

still_common : (a b : BTreeSet ObjectId) → KeepsIds a b → (lines : List (List ℕ)) → All (IsCommonLine a) lines → All (IsCommonLine b) lines
still_common a b keeps lines h = All-weaker (IsCommonLine a) (IsCommonLine b) (λ line k. (k.0, k.1, keeps k.0 k.2)) lines h

-- a line that was read counts
pub record ReadsOne {R : Type 0} (remaining : R → Option (List ℕ)) (now mid new : CommitText R) (id : ObjectId) : Type 0 where
  pub read : ReadsCommit (remaining now.text) now.known id (remaining mid.text) mid.known
  pub common : mid.known.common ≡ now.known.common
  pub awaited : mid.known.awaited ≡ now.known.awaited
  pub shares : SharesSome mid.known id new.known
  pub unknown : AwaitsUnknownBut mid.known id → AwaitsUnknown new.known
  pub text : new.text ≡ mid.text
  pub left : new.left + 1 ≡ now.left

module _ {R : Type 0} (remaining : R → Option (List ℕ)) (old now mid new : CommitText R) (id : ObjectId)
    (h : PassedSoFar remaining old now) (r : ReadsOne remaining now mid new id) where
  abbrev line : List ℕ
  line = r.read.line

  keeps_all : KeepsIds now.known.common new.known.common
  keeps_all q e = r.shares.keeps q (subst (λ l. contains id_cmp l q ≡ true) (sym r.common) e)

  read_all : ReadsTextLines (remaining old.text) (h.lines ++ line ∷ []) (remaining new.text)
  read_all = subst (λ t. ReadsTextLines (remaining old.text) (h.lines ++ line ∷ []) (remaining t)) (sym r.text)
      (reads_more (remaining old.text) (remaining now.text) (remaining mid.text) h.lines (line ∷ []) h.read r.read.read)

  added_all : after_lines commit_line old.known.read (h.lines ++ line ∷ []) ≡ Some new.known.read
  added_all = after_more h.lines line old.known.read now.known.read new.known.read h.passes.added
      (r.read.added ∙ ap Some (sym r.shares.read))

  marked_all : LosesNone old.known new.known
  marked_all = loses_none_trans old.known now.known new.known h.passes.tracked (loses_none_trans now.known mid.known new.known
      (commit_noted (remaining now.text) (remaining mid.text) now.known mid.known id r.read r.common r.awaited) r.shares.tracked)

  unknown_all : AwaitsUnknown old.known → AwaitsUnknown new.known
  unknown_all w = r.unknown (commit_unknown (remaining now.text) (remaining mid.text) now.known mid.known id r.read r.common r.awaited
      (h.passes.unknown w))

  whole_all : (IsSharedBut mid.known.read mid.known.common (id ∷ []) → IsSharedWhole new.known.read new.known.common)
      → IsSharedWhole old.known.read old.known.common → IsSharedWhole new.known.read new.known.common
  whole_all k x = k (commit_shared (remaining now.text) (remaining mid.text) now.known mid.known id r.read r.common (h.passes.whole x))

  spent_all : new.left + length (h.lines ++ line ∷ []) ≡ old.left
  spent_all = omega (arith, h.spent, r.left, length-append h.lines (line ∷ []))

  pub passed_more : (IsSharedBut mid.known.read mid.known.common (id ∷ []) → IsSharedWhole new.known.read new.known.common)
      → contains id_cmp new.known.common id ≡ true → PassedSoFar remaining old new
  passed_more k there = record {
    lines = h.lines ++ line ∷ [];
    read = read_all;
    passes = record {
      added = added_all;
      passed = All-append (IsCommonLine new.known.common) h.lines (line ∷ [])
          (still_common now.known.common new.known.common keeps_all h.lines h.passes.passed)
          (All-cons (IsCommonLine new.known.common) line [] (id, r.read.named, there) (All-nil (IsCommonLine new.known.common)));
      tracked = marked_all;
      unknown = unknown_all;
      whole = whole_all k;
    };
    spent = spent_all;
  }

  pub offered : (IsSharedBut mid.known.read mid.known.common (id ∷ []) → IsSharedWhole new.known.read new.known.common)
      → IsUncommon new.known.common id → AreAwaitedOrKnown new.known.read new.known.common new.known.awaited (parents_of new.known.read id)
      → OffersCommit remaining old id new
  offered k lacks awaits = record {
    earlier = h.lines;
    line = line;
    read = read_all;
    spent = omega (arith, h.spent, r.left);
    added = added_all;
    passed = still_common now.known.common new.known.common keeps_all h.lines h.passes.passed;
    named = r.read.named;
    uncommon = lacks;
    awaits = awaits;
    tracked = marked_all;
    unknown = unknown_all;
    whole = whole_all k;
  }

-- no line remains
pub nothing_at_end : {R : Type 0} (remaining : R → Option (List ℕ)) (old now new : CommitText R) → PassedSoFar remaining old now
    → IsAtEnd (remaining now.text) → new.known ≡ now.known → new.left + 1 ≡ now.left → OffersNothing remaining old new
nothing_at_end remaining old now new h e is l =
    record {
      lines = h.lines;
      passes = subst (PassesLines old.known h.lines) (sym is) h.passes;
      over = inl (reads_all (remaining old.text) (remaining now.text) h.lines h.read e);
      lowers = omega (arith, h.spent, l);
      spent = omega (arith, h.spent, l);
    }

-- nothing is awaited
pub nothing_awaited : {R : Type 0} (remaining : R → Option (List ℕ)) (old now : CommitText R) → PassedSoFar remaining old now
    → AwaitsNone now.known.awaited ⊎ (now.left ≡ 0) → OffersNothing remaining old now
nothing_awaited remaining old now h o =
    record {
      lines = h.lines;
      passes = h.passes;
      over = inr o;
      lowers = omega (arith, h.spent);
      spent = omega (arith, h.spent);
    }
