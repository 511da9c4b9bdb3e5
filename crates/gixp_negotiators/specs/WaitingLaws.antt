-- Laws of the queue.
use Rattle.std.proofs.Common.{◌≡◌, ◌∙◌, ◌&&◌, ℕ, false, not, cond, [], refl, ap, sym, true≢false}
use Rattle.gixp_hash.specs.declared.object_id.ObjectId.{ObjectId}
use Rattle.gixp_graph.specs.GraphData.{GraphData}
use Rattle.gixp_negotiators.specs.Marks.{SEEN, POPPED, has_mark}
use Rattle.gixp_negotiators.specs.Queued.{waits_of, open_in, Fits}

-- a negotiator without commits fits a graph in which no commit was seen or taken
pub new_fits : (g : GraphData) → ((id : ObjectId) → has_mark SEEN g.held id ≡ false) → ((id : ObjectId) → has_mark POPPED g.held id ≡ false)
    → Fits 0 0 [] g
unfolding waits_of open_in
new_fits g unseen untaken = record {
  waiting = λ id. sym (ap (λ b. cond {A = ℕ} (b && not (has_mark POPPED g.held id)) 1 0) (unseen id));
  taken = λ id t. absurd (true≢false (sym t ∙ untaken id));
  counted = refl;
}
