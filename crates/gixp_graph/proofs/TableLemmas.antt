-- Numbers that keep their ids.
use Rattle.std.proofs.Common.{◌≡◌, ℕ, ◌<◌, ◌∙◌, List, [], ◌∷◌, ◌++◌, zero, suc, length, get_or, refl, sym, ap, subst, arith}
use Rattle.std.proofs.lemmas.List.Elements.{All-head, All-tail, All-weaker}
use Rattle.gixp_hash.specs.declared.object_id.ObjectId.{ObjectId}
use Rattle.gixp_graph.specs.Table.{id_at, ids_at, AllNamed, KeepsNumbers}

-- two changes that keep them
pub kept_trans : (a b c : List ObjectId) → KeepsNumbers a b → KeepsNumbers b c → KeepsNumbers a c
kept_trans a b c h k n l = let first = h n l in let next = k n first.0 in (next.0, next.1 ∙ first.1)

module _ (ids ids' : List ObjectId) (kept : KeepsNumbers ids ids') where
  -- new numbers don't change the ids of others
  pub ids_kept : (numbers : List ℕ) → AllNamed ids numbers → ids_at ids' numbers ≡ ids_at ids numbers
  ids_kept [] h = refl
  ids_kept (n ∷ ns) h =
      ap (λ id. id ∷ ids_at ids' ns) (kept n (All-head (λ m. m < length ids) n ns h)).1
      ∙ ap (λ is. id_at ids n ∷ is) (ids_kept ns (All-tail (λ m. m < length ids) n ns h))

  -- the numbers still name ids
  pub named_kept : (numbers : List ℕ) → AllNamed ids numbers → AllNamed ids' numbers
  named_kept numbers h = All-weaker (λ m. m < length ids) (λ m. m < length ids') (λ m l. (kept m l).0) numbers h

pub ids_push : (ids : List ObjectId) (numbers : List ℕ) (n : ℕ) → ids_at ids (numbers ++ n ∷ []) ≡ ids_at ids numbers ++ id_at ids n ∷ []
ids_push ids [] n = refl
ids_push ids (m ∷ ms) n = ap (λ is. id_at ids m ∷ is) (ids_push ids ms n)

pub ids_get : (ids : List ObjectId) (numbers : List ℕ) (k : ℕ) (d : ObjectId) (e : ℕ) → k < length numbers
    → get_or (ids_at ids numbers) k d ≡ id_at ids (get_or numbers k e)
ids_get ids [] k d e l = absurd (omega arith)
ids_get ids (m ∷ ms) zero d e l = refl
ids_get ids (m ∷ ms) (suc k) d e l = ids_get ids ms k d e (omega arith)

pub ids_length : (ids : List ObjectId) (numbers : List ℕ) → length (ids_at ids numbers) ≡ length numbers
ids_length ids [] = refl
ids_length ids (m ∷ ms) = ap suc (ids_length ids ms)

pub kept_same : (a b c : List ObjectId) → c ≡ b → KeepsNumbers a b → KeepsNumbers a c
kept_same a b c e h = subst (KeepsNumbers a) (sym e) h
