-- Queued numbers as queued commits.
use Rattle.std.proofs.Common.{◌≡◌, ℕ, ℤ, ◌<◌, ◌∙◌, List, [], ◌∷◌, length, Option, Some, None, refl, sym, ap, subst, arith}
use Rattle.std.specs.Prelude.{All, ◌≤ℤ◌}
use Rattle.std.proofs.lemmas.Int.{ints}
use Rattle.std.specs.List.Sorted.{IsPermutation}
use Rattle.std.proofs.lemmas.List.Sorted.{All-permutation, IsPermutation-map, IsPermutation-sym}
use Rattle.std.proofs.lemmas.List.Elements.{All-cons, All-head, All-tail, All-weaker, All-map}
use Rattle.gixp_hash.specs.declared.object_id.ObjectId.{ObjectId}
use Rattle.gixp_graph.specs.GraphData.{HeldCommit}
use Rattle.gixp_graph.specs.Table.{id_at, KeepsNumbers}
use Rattle.gixp_graph.specs.declared.queue.Entry.{Entry}
use Rattle.gixp_graph.specs.Queue.{entry_at}
use Rattle.gixp_graph.specs.Waiting.{Waiting, waiting_of, waiting_in, AllQueuedNamed, Queues}

module _ (ids ids' : List ObjectId) (kept : KeepsNumbers ids ids') where
  -- new numbers don't change the queued commits
  pub waiting_kept : (queue : List Entry) → AllQueuedNamed ids queue → waiting_in ids' queue ≡ waiting_in ids queue
  waiting_kept [] h = refl
  waiting_kept (e ∷ es) h =
      ap (λ (id : ObjectId). record { time = e.time; id = id } ∷ waiting_in ids' es)
      (kept e.number (All-head (λ (x : Entry). x.number < length ids) e es h)).1
      ∙ ap (λ ws. waiting_of ids e ∷ ws) (waiting_kept es (All-tail (λ (x : Entry). x.number < length ids) e es h))

  -- the queue's numbers still name ids
  pub named_kept : (queue : List Entry) → AllQueuedNamed ids queue → AllQueuedNamed ids' queue
  named_kept queue h = All-weaker (λ (x : Entry). x.number < length ids) (λ (x : Entry). x.number < length ids')
      (λ x l. (kept x.number l).0) queue h

  -- nothing is pushed
  pub queues_none : (o : Option HeldCommit) (n : ℕ) (queue : List Entry) → o ≡ None → AllQueuedNamed ids queue
      → Queues o (id_at ids n) (waiting_in ids queue) (waiting_in ids' queue)
  queues_none o n queue e h = subst (λ x. Queues x (id_at ids n) (waiting_in ids queue) (waiting_in ids' queue)) (sym e)
      (waiting_kept queue h)

  -- one number is pushed
  pub queues_one : (o : Option HeldCommit) (k : HeldCommit) (t : ℤ) (n : ℕ) (queue queue' : List Entry) → o ≡ Some k → k.time ≡ t
      → n < length ids → AllQueuedNamed ids queue → IsPermutation (entry_at t n ∷ queue) queue'
      → Queues o (id_at ids n) (waiting_in ids queue) (waiting_in ids' queue')
  queues_one o k t n queue queue' e same l h p = subst (λ x. Queues x (id_at ids n) (waiting_in ids queue) (waiting_in ids' queue')) (sym e)
      (subst (λ z. IsPermutation (record { time = z; id = id_at ids n } ∷ waiting_in ids queue) (waiting_in ids' queue')) (sym same)
      (subst (λ ws. IsPermutation ws (waiting_in ids' queue'))
      (waiting_kept (entry_at t n ∷ queue) (All-cons (λ (x : Entry). x.number < length ids) (entry_at t n) queue l h))
      (IsPermutation-map (waiting_of ids') (entry_at t n ∷ queue) queue' p)))

  -- each queued number names an id
  pub named_one : (t : ℤ) (n : ℕ) (queue queue' : List Entry) → n < length ids → AllQueuedNamed ids queue
      → IsPermutation (entry_at t n ∷ queue) queue' → AllQueuedNamed ids' queue'
  named_one t n queue queue' l h p = All-permutation (λ (x : Entry). x.number < length ids') (entry_at t n ∷ queue) queue' p
      (named_kept (entry_at t n ∷ queue) (All-cons (λ (x : Entry). x.number < length ids) (entry_at t n) queue l h))

-- ---- the entry that is taken

module _ (ids : List ObjectId) (e : Entry) (old rest : List Entry) (taken : IsPermutation old (e ∷ rest)) where
  -- the queued commits are the one that is taken and the rest
  pub waiting_taken : IsPermutation (waiting_in ids old) (waiting_of ids e ∷ waiting_in ids rest)
  waiting_taken = IsPermutation-map (waiting_of ids) old (e ∷ rest) taken

  named_all : AllQueuedNamed ids old → AllQueuedNamed ids (e ∷ rest)
  named_all h = All-permutation (λ (x : Entry). x.number < length ids) old (e ∷ rest) taken h

  -- the rest still names ids
  pub named_rest : AllQueuedNamed ids old → AllQueuedNamed ids rest
  named_rest h = All-tail (λ (x : Entry). x.number < length ids) e rest (named_all h)

  -- the entry that is taken names an id
  pub named_taken : AllQueuedNamed ids old → e.number < length ids
  named_taken h = All-head (λ (x : Entry). x.number < length ids) e rest (named_all h)

-- queued commits have the times of their entries
pub older_waiting : (ids : List ObjectId) (t : ℤ) (queue : List Entry) → All (λ (e : Entry). e.time ≤ℤ t) queue
    → All (λ (x : Waiting). x.time ≤ℤ t) (waiting_in ids queue)
older_waiting ids t queue h = All-map (λ (x : Waiting). x.time ≤ℤ t) (waiting_of ids) queue h

-- no queued commit is newer than the one that is taken
pub older_all : (e : Entry) (old rest : List Entry) → IsPermutation old (e ∷ rest) → All (λ (x : Entry). x.time ≤ℤ e.time) rest
    → All (λ (x : Entry). x.time ≤ℤ e.time) old
older_all e old rest p h = All-permutation (λ (x : Entry). x.time ≤ℤ e.time) (e ∷ rest) old (IsPermutation-sym old (e ∷ rest) p)
    (All-cons (λ (x : Entry). x.time ≤ℤ e.time) e rest (omega (arith, ints)) h)
