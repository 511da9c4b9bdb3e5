use Rattle.std.proofs.Common.{◌≡◌, Some, ◌∙◌, ◌||◌, ◌⊎◌, ⊎_elim, ℕ, ap, arith, refl, sym, true≢false}
use Rattle.std.specs.BTreeSet.{contains}
use Rattle.std.specs.BTreeMap.{is_at}
use Rattle.std.proofs.lemmas.Bool.{or_left}
use Rattle.gixp_hash.specs.ObjectId.{id_cmp}
use Rattle.std.proofs.Common.{rules, w64}
use mir.Val.{SFits}
use Rattle.std.proofs.lemmas.Int.{to_z-of_z}
use Rattle.std.specs.Prelude.{is_some, bit_and}
use Rattle.std.specs.FinMap as finite
use Rattle.std.specs.BinaryHeap.{heap_len}
use Rattle.gixp_graph.specs.Object.{time_at}
use Rattle.gixp_negotiators.specs.declared.queue.Waiting.{Waiting}
use Rattle.gixp_negotiators.specs.Waiting.{waiting_at}
use Rattle.gixp_negotiators.specs.Marks.{SEEN}
use Rattle.gixp_negotiators.specs.CommitMarks.{Claims}
use Rattle.gixp_negotiators.specs.MarkLaws.{held_marked}
use Rattle.gixp_negotiators.proofs.GrowLemmas.{same_id, has_part}
use Rattle.gixp_negotiators.proofs.UnreadLemmas.{unread_same, unread_timed}
use Rattle.gixp_negotiators.proofs.FitLemmas.{seen_grown, fits_admitted, queues_same, queues_pushed, dated_new, shown_some}
use Rattle.gixp_negotiators.proofs.StepLemmas.{unseen_marked}
use Rattle.gixp_negotiators.proofs.LookedLemmas.{looked_ok, looked_from, looked_failed, looked_out}
use Rattle.gixp_negotiators.proofs.skipping.Skipping.push.Goals as goal

-- none of these sets has the mark of a commit that was taken
apart_pop : (m : ℕ) → (m ≡ 8) ⊎ (m ≡ 12) → bit_and m 16 ≡ 0
apart_pop m e = ⊎_elim (λ e. ap (λ n. bit_and n 16) e) (λ e. ap (λ n. bit_and n 16) e) e

apart_two : (m : ℕ) → (m ≡ 8) ⊎ (m ≡ 12) → bit_and m 2 ≡ 0
apart_two m e = ⊎_elim (λ e. ap (λ n. bit_and n 2) e) (λ e. ap (λ n. bit_and n 2) e) e

pub returns-in_default-clause-fits : goal.returns-in_default-clause-fits
returns-in_default-clause-fits g c lost f =
    seen_grown lost _ _ _ _ c.claim.ensures.looks.grows (rw c.in_default.is at c.in_ok-time.ensures.absent).0
    (rw c.in_default.is at c.in_ok-time.ensures.kept) (rw c.in_default.is at c.in_ok-time.ensures.unpopped) f

pub returns-clause-fits : goal.returns-clause-fits
returns-clause-fits g c lost f =
    let k : Claims SEEN c.args.graph.now.graph c.claim.new.graph.graph c.args.id.now _ = rw c.in-Some.is at c.in_ok-time.ensures.claimed in
    fits_admitted _ _ _ _ _ _ _ (rw (
      c.time_of.ensures.queue,
      c.admit.ensures.queue,
    ) at c.in_ok-push.ensures.waits) c.args.id.now refl c.claim.ensures.looks.grows c.claim.ensures.sees_only
    (c.claim.ensures.pops (apart_pop c.args.marks.0 c.requires)) (c.claim.ensures.settles (apart_two c.args.marks.0 c.requires))
    k.before k.after (c.time_of.ensures.uncommon ∙ c.in_ok-admit.ensures.counted) lost f

pub returns-in_default-clause-pops : goal.returns-in_default-clause-pops
returns-in_default-clause-pops g c = rw c.in_default.is at c.in_ok-time.ensures.unpopped

pub returns-clause-pops : goal.returns-clause-pops
returns-clause-pops g c = c.claim.ensures.pops (apart_pop c.args.marks.0 c.requires)

pub returns-in_default-clause-again : goal.returns-in_default-clause-again
returns-in_default-clause-again g c seen = (
  refl,
  (rw c.in_default.is at c.in_ok-time.ensures.again)
      (held_marked c.args.graph.now.graph c.args.id.now SEEN seen),
)

pub returns-clause-again : goal.returns-clause-again
returns-clause-again g c seen =
    let k : Claims SEEN c.args.graph.now.graph c.claim.new.graph.graph c.args.id.now _ = rw c.in-Some.is at c.in_ok-time.ensures.claimed in
    absurd (true≢false (sym seen ∙ k.before))

pub returns-in_default-clause-unread : goal.returns-in_default-clause-unread
returns-in_default-clause-unread g c = unread_same _ _ _ _ refl (rw c.in_default.is at c.in_ok-time.ensures.unpopped)

pub returns-clause-unread : goal.returns-clause-unread
returns-clause-unread g c =
    let read : c.is_some-is_read.result ≡ is_some (finite.get c.args.graph.now.graph.held c.args.id.now) = c.is_some-is_read.ensures
    ∙ ap is_some c.get.ensures.value ∙ shown_some (finite.get c.args.graph.now.graph.held c.args.id.now) in
    unread_timed _ _ _ _ c.args.id.now c.is_some-is_read.result
    (λ e. c.in_ok-due.ensures.stays e ∙ c.admit.ensures.unread)
    (λ e q. c.in_ok-due.ensures.kept e q
    ∙ ap (λ s. is_at (id_cmp c.args.id.now) q || contains id_cmp s q) c.admit.ensures.unread)
    read (c.claim.ensures.pops (apart_pop c.args.marks.0 c.requires))

pub returns-in_default-clause-unread_if_new : goal.returns-in_default-clause-unread_if_new
returns-in_default-clause-unread_if_new g c there new = absurd (true≢false
    (sym (held_marked c.args.graph.now.graph c.args.id.now SEEN ((rw c.in_default.is at c.in_ok-time.ensures.absent).0 c.args.id.now
    ((rw c.in_default.is at c.in_ok-time.ensures.none) there))) ∙ ap is_some new))

pub returns-clause-unread_if_new : goal.returns-clause-unread_if_new
returns-clause-unread_if_new g c there new =
    let read : c.is_some-is_read.result ≡ is_some (finite.get c.args.graph.now.graph.held c.args.id.now) = c.is_some-is_read.ensures
    ∙ ap is_some c.get.ensures.value ∙ shown_some (finite.get c.args.graph.now.graph.held c.args.id.now) in
    c.in_ok-due.ensures.kept (read ∙ ap is_some new) c.args.id.now
    ∙ or_left (is_at (id_cmp c.args.id.now) c.args.id.now) (contains id_cmp c.admit.new.self.unread c.args.id.now) (same_id c.args.id.now)

pub returns-clause-room : goal.returns-clause-room
returns-clause-room g c =
    let k : Claims SEEN c.args.graph.now.graph c.claim.new.graph.graph c.args.id.now _ = rw c.in-Some.is at c.in_ok-time.ensures.claimed in
    omega (
      arith,
      k.less,
      c.in_ok-push.ensures.ok,
      ap (λ q. heap_len q.waiting) c.time_of.ensures.queue,
      ap (λ q. heap_len q.waiting) c.admit.ensures.queue,
    )

pub returns-clause-waits : goal.returns-clause-waits
returns-clause-waits g c s =
    let k : Claims SEEN c.args.graph.now.graph c.claim.new.graph.graph c.args.id.now _ = rw c.in-Some.is at c.in_ok-time.ensures.claimed in
    k.after

pub returns-in_default-clause-queues : goal.returns-in_default-clause-queues
returns-in_default-clause-queues g c = queues_same _ _ _ refl

pub returns-clause-listed : goal.returns-clause-listed
returns-clause-listed g c four s unseen =
    has_part c.args.marks.0 4 c.claim.new.graph.graph.held c.args.id.now four (rw c.in-Some.is at c.in_ok-time.ensures.marked)

pub returns-in_default-clause-listed : goal.returns-in_default-clause-listed
returns-in_default-clause-listed g c four s unseen = absurd (unseen_marked c.args.graph.now.graph c.claim.new.graph.graph c.args.id.now
    (rw c.in_default.is at c.in_ok-time.ensures.absent).0 ((rw c.in_default.is at c.in_ok-time.ensures.none) s) unseen)

pub returns-clause-queues : goal.returns-clause-queues
returns-clause-queues g c =
    let k : Claims SEEN c.args.graph.now.graph c.claim.new.graph.graph c.args.id.now _ = rw c.in-Some.is at c.in_ok-time.ensures.claimed in
    let timed : time_at c.args.graph.now.graph.objects c.args.id.now ≡ Some c.in-Some.time =
    rw c.in-Some.is at c.in_ok-time.ensures.timed in
    let fits : SFits w64 c.in_ok-due.due = search rules in
    let held : SFits w64 c.in-Some.time = search rules in
    let read : c.is_some-is_read.result ≡ is_some (finite.get c.args.graph.now.graph.held c.args.id.now) = c.is_some-is_read.ensures
    ∙ ap is_some c.get.ensures.value ∙ shown_some (finite.get c.args.graph.now.graph.held c.args.id.now) in
    let new : Waiting = waiting_at c.in_ok-due.due c.args.self.now.queue.rank c.args.id.now in
    queues_pushed _ _ c.args.graph.now.graph new k.before
    (rw (c.time_of.ensures.queue, c.admit.ensures.queue, to_z-of_z w64 c.in_ok-due.due fits) at c.in_ok-push.ensures.waits)
    (dated_new c.args.graph.now.graph new c.in-Some.time timed (λ e. c.in_ok-due.ensures.read (read ∙ e)
    ∙ to_z-of_z w64 c.in-Some.time held) (λ e. c.in_ok-due.ensures.unread (read ∙ e)))

pub returns-in_default-clause-looks : goal.returns-in_default-clause-looks
returns-in_default-clause-looks g c = looked_ok c.in_ok-time.ensures.looks

pub returns-clause-looks : goal.returns-clause-looks
returns-clause-looks g c = looked_ok c.in_ok-time.ensures.looks

pub returns-in_err-time-clause-looks : goal.returns-in_err-time-clause-looks
returns-in_err-time-clause-looks g c = looked_from _ c.from_residual.ensures.1 c.in_err-time.ensures.looks

pub returns-in_err-admit-clause-looks : goal.returns-in_err-admit-clause-looks
returns-in_err-admit-clause-looks g c = looked_failed _ _ c.from_residual-in_err-admit.ensures.1 c.in_err-admit.ensures.failed
    c.in_ok-time.ensures.looks

pub returns-in_err-due-clause-looks : goal.returns-in_err-due-clause-looks
returns-in_err-due-clause-looks g c = looked_failed _ _ c.from_residual-in_err-due.ensures.1 c.in_err-due.ensures.failed
    c.in_ok-time.ensures.looks

pub returns-in_err-push-clause-looks : goal.returns-in_err-push-clause-looks
returns-in_err-push-clause-looks g c = looked_out _ c.from_residual-in_err-push.ensures.1 c.in_ok-time.ensures.looks
