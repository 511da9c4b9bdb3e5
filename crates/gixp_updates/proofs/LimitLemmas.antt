-- How many ids are read.
use Rattle.std.proofs.Common.{◌≡◌, ℕ, ◌+◌, ◌<◌, ◌≤◌, ◌∙◌, inl, inr, ⊎_elim, List, [], ◌∷◌, ◌++◌, length, get_or, append-nil, append_assoc, Option, Some, None, refl, sym, ap, subst, arith, add-one, true≢false}
use Rattle.std.specs.Prelude.{Result, Ok, Err, true, false, Contains}
use Rattle.std.proofs.lemmas.List.Elements.{All-contains, Contains-get_or}
use Rattle.std.specs.FinMap as finite
use Rattle.std.proofs.lemmas.Bool.{cases_lt}
use Rattle.gixp_hash.specs.declared.object_id.ObjectId.{ObjectId}
use Rattle.gixp_graph.specs.Object.{Commit}
use Rattle.gixp_graph.specs.GraphData.{GraphData}
use Rattle.gixp_graph.specs.Asked.{AsksOnce}
use Rattle.gixp_refmap.specs.declared.refmap.mapping.Mapping.{Mapping}
use Rattle.gixp_updates.specs.declared.refs.error.Error.{Error}
use Rattle.gixp_updates.specs.declared.refs.error.Error.TheVariants.{FindObject, TooManyCommits, Memory}
use Rattle.gixp_updates.specs.Ancestors.{IsAncestor, IsBeyond}
use Rattle.gixp_updates.specs.Search.{Search, SeesMore, HasAskedFor}
use Rattle.gixp_updates.specs.Limits.{LooksWithin, LooksBy, AsksWithin, AsksFew, KeepsLimit, AsksFewEach, IsOfMapping}

-- ---- one search of ancestors

-- a number that isn't beyond a limit is at most the limit
not_beyond : (seen most : ℕ) (limit : Option ℕ) → limit ≡ Some most → (IsBeyond seen limit → ⊥) → seen ≤ most
not_beyond seen most limit e l =
    let f : (most < seen) → ⊥ = subst (λ o. IsBeyond seen o → ⊥) e l in
    ⊎_elim (λ h. absurd (f h)) (λ h. h) (cases_lt most seen)

module _ (read : ObjectId → Option Commit) (start : ObjectId) where
  -- a search that has just begun
  pub within_begun : (most : ℕ) (none s : Search) → ((q : ObjectId) → none.seen q ≡ false) → SeesMore (start ∷ []) none s
      → LooksWithin read start most (λ q. s.seen q ≡ true)
  within_begun most none s unseen m = record {
    before = [];
    few = omega arith;
    last = start ∷ [];
    comes_last = inl refl;
    covers = λ q h. ⊎_elim (λ e. absurd (true≢false (sym e ∙ unseen q))) (λ e. inr e) (m.only q h);
  }

  -- a search that reached no more before, and now looks up the parents of a commit
  pub within_step : (most : ℕ) (limit : Option ℕ) (b c : Search) (keys : List ObjectId) (seen : ℕ) (id : ObjectId) (k : Commit)
      (ps : List ObjectId) → limit ≡ Some most → (IsBeyond seen limit → ⊥) → seen ≡ length keys
      → ((q : ObjectId) → b.seen q ≡ true → Contains keys q) → IsAncestor read start id → read id ≡ Some k → ps ≡ k.parents
      → SeesMore ps b c → LooksWithin read start most (λ q. c.seen q ≡ true)
  within_step most limit b c keys seen id k ps e l n listed a r p m = record {
    before = keys;
    few = omega (arith, not_beyond seen most limit e l, n);
    last = ps;
    comes_last = inr (id, k, a, r, p);
    covers = λ q h. ⊎_elim (λ s. inl (listed q s)) (λ s. inr s) (m.only q h);
  }

  -- each id that was read was looked up
  pub asked_within : (g : GraphData) (limit : Option ℕ) (s : Search) (old new : List ObjectId) → ((most : ℕ) → limit ≡ Some most
      → LooksWithin read start most (λ q. s.seen q ≡ true)) → HasAskedFor g s old new → AsksWithin read start limit old new
  asked_within g limit s old new h a = record { ids = a.ids; asked = a.appended; within = by limit h }
    where
      seen : (q : ObjectId) → Contains a.ids q → s.seen q ≡ true
      seen q c = (All-contains (λ q. (s.seen q ≡ true) × (finite.get g.held q ≡ None)) a.ids q a.each c).0

      by : (limit : Option ℕ) → ((most : ℕ) → limit ≡ Some most → LooksWithin read start most (λ q. s.seen q ≡ true))
          → LooksBy read start limit (Contains a.ids)
      by None f = tt
      by (Some most) f =
          let w = f most refl in
          record { before = w.before; few = w.few; last = w.last; comes_last = w.comes_last; covers = λ q c. w.covers q (seen q c) }

-- ---- one mapping

module _ (read : ObjectId → Option Commit) (IsStart : ObjectId → Type 0) (limit : Option ℕ) where
  -- nothing is read
  pub limit_none : {T : Type 0} (most : ℕ) (x : T) (a : List ObjectId) → KeepsLimit read IsStart limit {T = T} most (Ok x) a a
  limit_none most x a = record { looked = []; few = omega arith; mid = a; asked = sym (append-nil a); walked = inl refl }

  -- one look-up
  few_after : (most more : ℕ) → most + 1 ≤ more → (id : ObjectId) (a b c : List ObjectId) → AsksOnce id a b
      → AsksFew read IsStart limit most b c → AsksFew read IsStart limit more a c
  few_after most more l id a b c asks h = ⊎_elim
      (λ e. record {
        looked = h.looked;
        few = omega (arith, l, h.few);
        mid = h.mid;
        asked = h.asked ∙ ap (λ x. x ++ h.looked) e;
        walked = h.walked;
      })
      (λ e. record {
        looked = id ∷ h.looked;
        few = omega (arith, l, h.few);
        mid = h.mid;
        asked = h.asked ∙ ap (λ x. x ++ h.looked) e ∙ append_assoc a (id ∷ []) h.looked;
        walked = h.walked;
      })
      asks

  pub limit_after : {T : Type 0} (most more : ℕ) → most + 1 ≤ more → (id : ObjectId) (r : Result T Error) (a b c : List ObjectId)
      → AsksOnce id a b → KeepsLimit read IsStart limit most r b c → KeepsLimit read IsStart limit more r a c
  limit_after most more l id (Ok x) a b c asks h = few_after most more l id a b c asks h
  limit_after most more l id (Err (FindObject e)) a b c asks h = tt
  limit_after most more l id (Err TooManyCommits) a b c asks h = h
  limit_after most more l id (Err Memory) a b c asks h = tt

  -- one search of ancestors
  pub limit_walked : {T : Type 0} (most : ℕ) (x : T) (start : ObjectId) (a b : List ObjectId) → IsStart start
      → AsksWithin read start limit a b → KeepsLimit read IsStart limit {T = T} most (Ok x) a b
  limit_walked most x start a b is h =
      record { looked = []; few = omega arith; mid = a; asked = sym (append-nil a); walked = inr (start, is, h) }

  -- a commit of one mapping is a commit of several
  few_weaker : (Others : ObjectId → Type 0) → ((q : ObjectId) → IsStart q → Others q) → (most : ℕ) (a b : List ObjectId)
      → AsksFew read IsStart limit most a b → AsksFew read Others limit most a b
  few_weaker Others f most a b h = record {
    looked = h.looked;
    few = h.few;
    mid = h.mid;
    asked = h.asked;
    walked = ⊎_elim (λ e. inl e) (λ e. inr (e.0, f e.0 e.1, e.2)) h.walked;
  }

  pub limit_weaker : {T : Type 0} (Others : ObjectId → Type 0) → ((q : ObjectId) → IsStart q → Others q) → (most : ℕ) (r : Result T Error)
      (a b : List ObjectId) → KeepsLimit read IsStart limit most r a b → KeepsLimit read Others limit most r a b
  limit_weaker Others f most (Ok x) a b h = few_weaker Others f most a b h
  limit_weaker Others f most (Err (FindObject e)) a b h = tt
  limit_weaker Others f most (Err TooManyCommits) a b h =
      record { most = h.most; limited = h.limited; start = h.start; is_start = f h.start h.is_start; more = h.more }
  limit_weaker Others f most (Err Memory) a b h = tt

-- objects that read the same
pub limit_read : {T : Type 0} (read same : ObjectId → Option Commit) → same ≡ read → (IsStart : ObjectId → Type 0) (limit : Option ℕ)
    (most : ℕ) (r : Result T Error) (a b : List ObjectId) → KeepsLimit same IsStart limit most r a b
    → KeepsLimit read IsStart limit most r a b
limit_read read same e IsStart limit most r a b h = subst (λ f. KeepsLimit f IsStart limit most r a b) e h

-- ---- each mapping

pub is_within : (ms : List Mapping) (k : ℕ) (m : Mapping) → m ≡ get_or ms k m → k < length ms → Contains ms m
is_within ms k m e l = subst (Contains ms) (sym e) (Contains-get_or ms k m l)

module _ (read : ObjectId → Option Commit) (ms : List Mapping) (limit : Option ℕ) where
  pub each_more : {T : Type 0} (n : ℕ) (x : T) (a b c : List ObjectId) → AsksFewEach read (IsOfMapping ms) limit 2 n a b
      → KeepsLimit read (IsOfMapping ms) limit {T = T} 2 (Ok x) b c → AsksFewEach read (IsOfMapping ms) limit 2 (n + 1) a c
  each_more n x a b c h k = subst (λ m. AsksFewEach read (IsOfMapping ms) limit 2 m a c) (sym (add-one n)) (b, h, k)
