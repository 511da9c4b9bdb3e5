use Rattle.std.proofs.Common.{◌≡◌, refl, sym, ◌∙◌, subst, inl, inr, length, arith}
use Rattle.std.proofs.lemmas.Result.{err_from_is_err_and}
use Rattle.gixp_fetch.proofs.RoundLemmas.{manner_still, turn_by, refusal_by, running_more, unnamed_by, packed_by, done_by, interrupts_by, fails_by, failed_by, turn_at, refused_at}
use Rattle.gixp_fetch.proofs.ProgressLemmas.{named_as, tells_more}
use Rattle.gixp_fetch.proofs.session.FetchSession.rounds.Goals as goal

pub returns-in_err-tell_round-clause-err : goal.returns-in_err-tell_round-clause-err
returns-in_err-tell_round-clause-err g c =
    let p = err_from_is_err_and c.from_residual.result c.from_residual.ensures.1 in
    rw (p.1, p.2) (unnamed_by _ _ _ _ c.rounds.so_far.updates.items _ refl c.rounds.invariant.running)

pub returns-then-is_interrupted-clause-err : goal.returns-then-is_interrupted-clause-err
returns-then-is_interrupted-clause-err g c =
    let l : c.len-rounds.result ≡ length c.rounds.so_far.rounds.items = omega (arith, c.len-rounds.ensures, c.rounds.so_far.rounds.ok.0) in
    failed_by _ _ _ _ _ _ refl l
    (inl (interrupts_by _ _ _ _ c.rounds.so_far.updates.items c.is_interrupted.new.self c.rounds.invariant.running
    (subst (λ b. g.I.Interrupt.polls c.rounds.self.interrupt.now b c.is_interrupted.new.self) c.if-is_interrupted.true
    c.is_interrupted.ensures)))

pub returns-in_err-done-clause-err : goal.returns-in_err-done-clause-err
returns-in_err-done-clause-err g c =
    let e = c.in_err-done.field-0.0 in
    let h =
    refusal_by _ _ (manner_still g.N.Negotiate.calls g.I.Interrupt.polls g.T.ExtendedBufRead.is_plain c.args.self.now c.rounds.self
    c.rounds.invariant.same) _ e _ _ _ c.in_err-done.ensures.err in
    let s =
    subst (λ b. g.I.Interrupt.polls c.rounds.self.interrupt.now b c.is_interrupted.new.self) c.if-is_interrupted.false
    c.is_interrupted.ensures in
    let p = err_from_is_err_and c.from_residual-in_err-done.result c.from_residual-in_err-done.ensures.1 in
    rw (p.1, p.2) (fails_by _ _ _ c.rounds.so_far.rounds.items c.rounds.so_far.updates.items e _ _ _ _ c.rounds.invariant.running s
    (refused_at _ _ _ _ _ _ _ _ _ _ _ _ c.as_ref.ensures.value h))

pub returns-then-has_pack-clause-ok : goal.returns-then-has_pack-clause-ok
returns-then-has_pack-clause-ok g c =
    let o =
    turn_by _ _ (manner_still g.N.Negotiate.calls g.I.Interrupt.polls g.T.ExtendedBufRead.is_plain c.args.self.now c.rounds.self
    c.rounds.invariant.same) _ _ _ _ _ _ c.in_ok-done.ensures.ok in
    let s =
    subst (λ b. g.I.Interrupt.polls c.rounds.self.interrupt.now b c.is_interrupted.new.self) c.if-is_interrupted.false
    c.is_interrupted.ensures in
    packed_by _ _ _ c.rounds.so_far.rounds.items _ c.rounds.so_far.updates.items _ _ c.rounds.invariant.running
    (turn_at _ _ _ _ _ _ _ _ _ c.as_ref.ensures.value (o.turn c.rounds.self.interrupt.now s))
    (sym c.has_pack.ensures ∙ c.if-has_pack.true) o.reported o.gathered

pub returns-then-done-clause-err : goal.returns-then-done-clause-err
returns-then-done-clause-err g c =
    let o =
    turn_by _ _ (manner_still g.N.Negotiate.calls g.I.Interrupt.polls g.T.ExtendedBufRead.is_plain c.args.self.now c.rounds.self
    c.rounds.invariant.same) _ _ _ _ _ _ c.in_ok-done.ensures.ok in
    let s =
    subst (λ b. g.I.Interrupt.polls c.rounds.self.interrupt.now b c.is_interrupted.new.self) c.if-is_interrupted.false
    c.is_interrupted.ensures in
    let l : c.len-rounds-then-done.result ≡ length c.turn.new.so_far.rounds.items =
    omega (arith, c.len-rounds-then-done.ensures, c.turn.new.so_far.rounds.ok.0) in
    failed_by _ _ _ _ _ _ refl l
    (inr (done_by _ _ _ c.rounds.so_far.rounds.items _ c.rounds.so_far.updates.items _ c.rounds.invariant.running
    (turn_at _ _ _ _ _ _ _ _ _ c.as_ref.ensures.value (o.turn c.rounds.self.interrupt.now s)) c.if-done.true
    (sym c.has_pack.ensures ∙ c.if-has_pack.false) o.reported))

pub rounds-preserved : goal.rounds-preserved
rounds-preserved g c =
    let o =
    turn_by _ _ (manner_still g.N.Negotiate.calls g.I.Interrupt.polls g.T.ExtendedBufRead.is_plain c.args.self.now c.rounds.self
    c.rounds.invariant.same) _ _ _ _ _ _ c.in_ok-done.ensures.ok in
    let s =
    subst (λ b. g.I.Interrupt.polls c.rounds.self.interrupt.now b c.is_interrupted.new.self) c.if-is_interrupted.false
    c.is_interrupted.ensures in
    record {
      same = record {
        transport = c.turn.ensures.same.transport ∙ c.rounds.invariant.same.transport;
        progress = c.turn.ensures.same.progress ∙ c.rounds.invariant.same.progress;
        interrupt = c.turn.ensures.same.interrupt ∙ c.rounds.invariant.same.interrupt;
        version = c.turn.ensures.same.version ∙ c.rounds.invariant.same.version;
        sideband_all = c.turn.ensures.same.sideband_all ∙ c.rounds.invariant.same.sideband_all;
      };
      window = (c.in_ok-done.ensures.goes_on c.if-done.false).0;
      running = running_more _ _ _ c.rounds.so_far.rounds.items _ c.rounds.so_far.updates.items _ _ c.rounds.invariant.running
          (turn_at _ _ _ _ _ _ _ _ _ c.as_ref.ensures.value (o.turn c.rounds.self.interrupt.now s)) c.if-done.false
          (sym c.has_pack.ensures ∙ c.if-has_pack.false) o.reported o.gathered;
      reported = tells_more g.P.Progress.reported g.P.NestedProgress.adds _ _ c.rounds.so_far.rounds.items _ o.round c.args.self.now.progress.now
          c.rounds.self.progress.now c.tell_round.new.progress c.turn.new.self.progress.now c.rounds.invariant.same.sideband_all o.reported
          c.rounds.invariant.reported
          (named_as g.P.Progress.reported _ _ _ _ c.deref.ensures.value c.in_ok-tell_round.ensures.ok) c.in_ok-done.ensures.reported;
    }

pub returns-then-has_pack-clause-reported : goal.returns-then-has_pack-clause-reported
returns-then-has_pack-clause-reported g c =
    let o =
    turn_by _ _ (manner_still g.N.Negotiate.calls g.I.Interrupt.polls g.T.ExtendedBufRead.is_plain c.args.self.now c.rounds.self
    c.rounds.invariant.same) _ _ _ _ _ _ c.in_ok-done.ensures.ok in
    tells_more g.P.Progress.reported g.P.NestedProgress.adds _ _ c.rounds.so_far.rounds.items _ o.round c.args.self.now.progress.now
    c.rounds.self.progress.now c.tell_round.new.progress c.turn.new.self.progress.now c.rounds.invariant.same.sideband_all o.reported
    c.rounds.invariant.reported
    (named_as g.P.Progress.reported _ _ _ _ c.deref.ensures.value c.in_ok-tell_round.ensures.ok) c.in_ok-done.ensures.reported
