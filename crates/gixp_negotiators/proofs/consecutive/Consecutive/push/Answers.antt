use Rattle.std.proofs.Common.{◌≡◌, ◌∙◌, ℕ, ◌+◌, ◌||◌, ◌⊎◌, ⊎_elim, Bool, ap, arith, refl, sym, true, false, Some, true≢false}
use Rattle.std.specs.Prelude.{bit_and}
use Rattle.std.proofs.Common.{rules, w64}
use mir.Val.{SFits}
use Rattle.std.proofs.lemmas.Bool.{or_right}
use Rattle.std.proofs.lemmas.Int.{to_z-of_z}
use Rattle.std.specs.BinaryHeap.{heap_len}
use Rattle.gixp_hash.specs.declared.object_id.ObjectId.{ObjectId}
use Rattle.gixp_graph.specs.declared.flags.Flags.{Flags}
use Rattle.gixp_graph.specs.GraphData.{GraphData}
use Rattle.gixp_graph.specs.Object.{time_at}
use Rattle.gixp_negotiators.specs.Marks.{COMMON, SEEN, has_all, has_mark}
use Rattle.gixp_negotiators.specs.AddedMarks.{MarksNoCommon}
use Rattle.gixp_negotiators.specs.CommitMarks.{Claims}
use Rattle.gixp_negotiators.specs.MarkLaws.{held_marked}
use Rattle.gixp_negotiators.specs.Waiting.{waiting_at}
use Rattle.gixp_negotiators.specs.Queued.{open_one}
use Rattle.gixp_negotiators.proofs.GrowLemmas.{has_part, from_eq}
use Rattle.gixp_negotiators.proofs.FitLemmas.{lacked, timed_grown, timed_pushed, admitted}
use Rattle.gixp_negotiators.specs.Spread.{is_there}
use Rattle.gixp_negotiators.proofs.SpreadLemmas.{stays_there, stays_grown, stays_pushed}
use Rattle.gixp_negotiators.proofs.StepLemmas.{unseen_marked}
use Rattle.gixp_negotiators.proofs.SeeLemmas.{sees_same, sees_one}
use Rattle.gixp_negotiators.proofs.LookedLemmas.{looked_ok, looked_from, looked_failed, looked_out}
use Rattle.gixp_negotiators.proofs.consecutive.Consecutive.push.Goals as goal

-- none of these sets has the mark of a commit that was taken
apart_pop : (m : ℕ) → (m ≡ 8) ⊎ ((m ≡ 10) ⊎ (m ≡ 12)) → bit_and m 16 ≡ 0
apart_pop m e = ⊎_elim (λ e. ap (λ n. bit_and n 16) e)
    (λ r. ⊎_elim (λ e. ap (λ n. bit_and n 16) e) (λ e. ap (λ n. bit_and n 16) e) r) e

apart_two : (m : ℕ) → (m ≡ 8) ⊎ ((m ≡ 10) ⊎ (m ≡ 12)) → has_all COMMON m ≡ false → bit_and m 2 ≡ 0
apart_two m e f = ⊎_elim (λ e. ap (λ n. bit_and n 2) e)
    (λ r. ⊎_elim (λ e. absurd (true≢false (sym (ap (has_all COMMON) e) ∙ f))) (λ e. ap (λ n. bit_and n 2) e) r) e

-- whether the commit is common afterwards
common_after : (g h : GraphData) (id : ObjectId) (flags : Flags) (marks : ℕ) → Claims SEEN g h id flags → has_mark marks h.held id ≡ true
    → (bit_and marks 2 ≡ 0 → MarksNoCommon g h) → (has_all COMMON marks ≡ false → bit_and marks 2 ≡ 0)
    → has_mark COMMON h.held id ≡ (has_all COMMON flags.0 || has_all COMMON marks)
common_after g h id flags marks k marked settles apart = at (has_all COMMON flags.0) (has_all COMMON marks) refl refl
  where
    at : (a b : Bool) → has_all COMMON flags.0 ≡ a → has_all COMMON marks ≡ b → has_mark COMMON h.held id ≡ (a || b)
    at true b e f = k.had COMMON e
    at false true e f = has_part marks 2 h.held id (from_eq _ _ f) marked
    at false false e f =
        lacked (has_mark COMMON h.held id) (has_mark COMMON g.held id) (settles (apart f) id) (k.lacks COMMON e)

pub returns-in_default-clause-keeps : goal.returns-in_default-clause-keeps
returns-in_default-clause-keeps g c =
    timed_grown _ _ _ _ c.claim.ensures.looks.grows (rw c.in_default.is at c.in_ok-time.ensures.absent).0
    (rw c.in_default.is at c.in_ok-time.ensures.kept) (rw c.in_default.is at c.in_ok-time.ensures.unpopped)

pub returns-clause-keeps : goal.returns-clause-keeps
returns-clause-keeps g c =
    let k : Claims SEEN c.args.graph.now.graph c.claim.new.graph.graph c.args.id.now c.in-Some.flags =
    rw c.in-Some.is at c.in_ok-time.ensures.claimed in
    let marked : has_mark c.args.marks.0 c.claim.new.graph.graph.held c.args.id.now ≡ true =
    rw c.in-Some.is at c.in_ok-time.ensures.marked in
    let timed : time_at c.args.graph.now.graph.objects c.args.id.now ≡ Some c.in-Some.time =
    rw c.in-Some.is at c.in_ok-time.ensures.timed in
    let fits : SFits w64 c.in-Some.time = search rules in
    let two : has_mark COMMON c.claim.new.graph.graph.held c.args.id.now ≡ c.either_has-is_common.result =
    common_after c.args.graph.now.graph c.claim.new.graph.graph c.args.id.now c.in-Some.flags c.args.marks.0 k marked
    c.claim.ensures.settles
    (apart_two c.args.marks.0 c.requires) ∙ sym c.either_has-is_common.ensures in
    let is : c.admit.new.self.uncommon ≡ c.args.self.now.uncommon + open_one c.claim.new.graph.graph.held c.args.id.now =
    admitted _ _ _ _ c.either_has-is_common.result two c.in_ok-admit.ensures.common c.in_ok-admit.ensures.open in
    timed_pushed _ _ _ _ _ _
    (waiting_at c.in-Some.time c.args.self.now.queue.rank c.args.id.now) c.claim.ensures.looks.grows c.claim.ensures.sees_only
    (c.claim.ensures.pops (apart_pop c.args.marks.0 c.requires)) c.claim.ensures.marks_common_only k.before k.after
    (rw (c.admit.ensures.queue, to_z-of_z w64 c.in-Some.time fits) at c.in_ok-push.ensures.waits) is timed

pub returns-clause-room : goal.returns-clause-room
returns-clause-room g c =
    let k : Claims SEEN c.args.graph.now.graph c.claim.new.graph.graph c.args.id.now c.in-Some.flags =
    rw c.in-Some.is at c.in_ok-time.ensures.claimed in
    omega (arith, k.less, c.in_ok-push.ensures.ok, ap (λ q. heap_len q.waiting) c.admit.ensures.queue)

pub returns-clause-waits : goal.returns-clause-waits
returns-clause-waits g c s =
    let k : Claims SEEN c.args.graph.now.graph c.claim.new.graph.graph c.args.id.now c.in-Some.flags =
    rw c.in-Some.is at c.in_ok-time.ensures.claimed in
    k.after

pub returns-in_default-clause-spreads : goal.returns-in_default-clause-spreads
returns-in_default-clause-spreads g c =
    stays_grown is_there stays_there _ _ c.claim.ensures.looks.grows (rw c.in_default.is at c.in_ok-time.ensures.kept)

pub returns-clause-spreads : goal.returns-clause-spreads
returns-clause-spreads g c =
    let k : Claims SEEN c.args.graph.now.graph c.claim.new.graph.graph c.args.id.now c.in-Some.flags =
    rw c.in-Some.is at c.in_ok-time.ensures.claimed in
    stays_pushed is_there stays_there c.args.id.now _ _ c.claim.ensures.looks.grows c.claim.ensures.marks_common_only k.before

pub returns-in_default-clause-marked : goal.returns-in_default-clause-marked
returns-in_default-clause-marked g c s unseen = absurd (unseen_marked c.args.graph.now.graph c.claim.new.graph.graph c.args.id.now
    (rw c.in_default.is at c.in_ok-time.ensures.absent).0 ((rw c.in_default.is at c.in_ok-time.ensures.none) s) unseen)

pub returns-clause-marked : goal.returns-clause-marked
returns-clause-marked g c s unseen = rw c.in-Some.is at c.in_ok-time.ensures.marked

pub returns-in_default-clause-finds : goal.returns-in_default-clause-finds
returns-in_default-clause-finds g c two = sees_same _ _ (rw c.in_default.is at c.in_ok-time.ensures.absent).0

pub returns-clause-finds : goal.returns-clause-finds
returns-clause-finds g c two = sees_one _ _ c.args.id.now c.claim.ensures.sees_only
    (or_right (has_mark SEEN c.args.graph.now.graph.held c.args.id.now) (has_mark COMMON c.claim.new.graph.graph.held c.args.id.now)
    (has_part c.args.marks.0 2 c.claim.new.graph.graph.held c.args.id.now two (rw c.in-Some.is at c.in_ok-time.ensures.marked)))

pub returns-in_default-clause-pops : goal.returns-in_default-clause-pops
returns-in_default-clause-pops g c = rw c.in_default.is at c.in_ok-time.ensures.unpopped

pub returns-clause-pops : goal.returns-clause-pops
returns-clause-pops g c = c.claim.ensures.pops (apart_pop c.args.marks.0 c.requires)

pub returns-in_default-clause-again : goal.returns-in_default-clause-again
returns-in_default-clause-again g c seen = (
  refl,
  (rw c.in_default.is at c.in_ok-time.ensures.again)
      (held_marked c.args.graph.now.graph c.args.id.now SEEN seen),
)

pub returns-clause-again : goal.returns-clause-again
returns-clause-again g c seen =
    let k : Claims SEEN c.args.graph.now.graph c.claim.new.graph.graph c.args.id.now c.in-Some.flags =
    rw c.in-Some.is at c.in_ok-time.ensures.claimed in
    absurd (true≢false (sym seen ∙ k.before))

pub returns-in_default-clause-looks : goal.returns-in_default-clause-looks
returns-in_default-clause-looks g c = looked_ok c.in_ok-time.ensures.looks

pub returns-clause-looks : goal.returns-clause-looks
returns-clause-looks g c = looked_ok c.in_ok-time.ensures.looks

pub returns-in_err-time-clause-looks : goal.returns-in_err-time-clause-looks
returns-in_err-time-clause-looks g c = looked_from _ c.from_residual.ensures.1 c.in_err-time.ensures.looks

pub returns-in_err-admit-clause-looks : goal.returns-in_err-admit-clause-looks
returns-in_err-admit-clause-looks g c = looked_failed _ _ c.from_residual-in_err-admit.ensures.1 c.in_err-admit.ensures.failed
    c.in_ok-time.ensures.looks

pub returns-in_err-push-clause-looks : goal.returns-in_err-push-clause-looks
returns-in_err-push-clause-looks g c = looked_out _ c.from_residual-in_err-push.ensures.1 c.in_ok-time.ensures.looks
