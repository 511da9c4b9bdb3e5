use Rattle.std.proofs.Common.{ap, sym, inr, ◌∙◌}
use Rattle.gixp_client.specs.ClientCalls.{session_knowledge}
use Rattle.gixp_client.proofs.RunLemmas.{in_session, refused_in_session}
use Rattle.gixp_client.proofs.SettleLemmas.{received_of, refused_of, stands_of, known_of, unreported_of}
use Rattle.gixp_client.proofs.session.Session.fetch_with.Goals as goal

pub returns-in-Ok-clause-fetched : goal.returns-in-Ok-clause-fetched
returns-in-Ok-clause-fetched g c = inr (
  c.ids-after.result.now,
  record {
    reached = _;
    reaches = c.in_ok-objects.ensures.shown;
    call =
        in_session _ _ _ _ c.args.self.now.shaken c.args.request.now _ _ _ _ _ _ _ _ _ _ _ _ _ _ _ _ _ _ _
        (ap (session_knowledge c.args.request.now _) c.in_ok-objects.ensures.refs)
        c.in_ok-store.ensures.ids c.in_ok-store.ensures.unlocked (sym c.ids-after.ensures) c.in_ok-name.ensures.0 c.in_ok-name.ensures.1
        (received_of _ _ _ _ c.take_kept-messages.result _ _ _ c.unless_reported-received.ensures.reported c.in-Ok.ensures.outcome)
        (ap g.T.ExtendedBufRead.reading (sym (c.unless_reported-received.ensures.transport ∙ c.take_kept-messages.ensures.inner)))
        c.in_ok-known.ensures
        c.carry_out-received.ensures.fetched.0;
  },
  c.in-Ok.ensures.boundary,
)

pub returns-in-Ok-clause-position : goal.returns-in-Ok-clause-position
returns-in-Ok-clause-position g c =
    stands_of _ _ c.take_kept-messages.result _ _ _ _ _ _ _ c.unless_reported-received.ensures.reported c.in-Ok.ensures.outcome c.carry_out-received.ensures.fetched.1

pub returns-in-Ok-clause-known : goal.returns-in-Ok-clause-known
returns-in-Ok-clause-known g c =
    known_of _ _ _ _ c.take_kept-messages.result _ _ _ _ _ c.unless_reported-received.ensures.reported c.in-Ok.ensures.outcome c.in_ok-known.ensures
    c.carry_out-received.ensures.known

pub returns-clause-refused : goal.returns-clause-refused
returns-clause-refused g c =
    let s = refused_in_session _ _ _ _ c.args.self.now.shaken c.args.request.now _ _ _ _ _ _ _ _ _ _ _ _ _ _ _ _ _ _ _ _ _ _ _
    (ap (session_knowledge c.args.request.now _) c.in_ok-objects.ensures.refs)
    c.in_ok-store.ensures.ids c.in_ok-store.ensures.unlocked (sym c.ids-after.ensures) c.in_ok-name.ensures.0 c.in_ok-name.ensures.1
    (ap g.T.ExtendedBufRead.reading (sym (c.unless_reported-received.ensures.transport ∙ c.take_kept-messages.ensures.inner)))
    c.in_ok-known.ensures
    c.carry_out-received.ensures.fetched.0
    (refused_of _ _ c.take_kept-messages.result _ _ _ _ _ _ _ c.unless_reported-received.ensures.reported c.in-Err.ensures.refused c.carry_out-received.ensures.fetched.1)
    (λ unsent. ap (λ s. s.shaken) c.unless_reported-received.ensures.others ∙ c.carry_out-received.ensures.fetched.2 unsent) in inr (
      c.carry_out-received.result,
      c.ids-after.result.now,
      record { reached = _; reaches = c.in_ok-objects.ensures.shown; call = s.0 },
      s.1,
      s.2,
    )

pub returns-in-Ok-clause-unreported : goal.returns-in-Ok-clause-unreported
returns-in-Ok-clause-unreported g c =
    unreported_of _ _ _ _ _ _ _ _ _ c.unless_reported-received.ensures.reported c.in-Ok.ensures.outcome c.in-Ok.ensures.messages
