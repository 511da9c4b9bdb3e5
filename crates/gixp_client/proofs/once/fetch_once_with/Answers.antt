use Rattle.std.proofs.Common.{inl, inr, refl}
use Rattle.gixp_client.proofs.FailureLemmas.{failed_by}
use Rattle.gixp_client.proofs.PromiseLemmas.{named_run}
use Rattle.gixp_client.proofs.once.fetch_once_with.Goals as goal

pub returns-clause-fetched : goal.returns-clause-fetched
returns-clause-fetched g c = elim c.in_ok-fetched.ensures.fetched [
  | inl h ↦ inl (h.0, h.1, h.3)
  | inr f ↦ inr (
    f.1.reached,
    _,
    f.1.reaches,
    named_run _ _ _ _ (c.sessions_are_runs.ensures _) _ _ _ c.args.request.now _ _ _ _ _ _ _ _ _ _ _ _ _ c.in_ok-session.ensures.named
        c.in_ok-session.ensures.nameless c.in_ok-map.ensures.name c.in_ok-session.ensures.opened c.in_ok-map.ensures.mapped c.in_ok-map.ensures.handshake f.1.call,
  )
]

pub returns-in_err-map-clause-refused : goal.returns-in_err-map-clause-refused
returns-in_err-map-clause-refused g c = failed_by _ _ _ c.from_residual-in_err-map.ensures.1 (inr (
  c.in_ok-session.session,
  c.in_ok-session.ensures.opened,
  c.in_ok-session.ensures.named,
  c.in_ok-session.ensures.nameless,
  c.in_ok-session.ensures.state,
  inl (_, refl, c.in_err-map.ensures.refused),
))

pub returns-in_err-fetched-clause-refused : goal.returns-in_err-fetched-clause-refused
returns-in_err-fetched-clause-refused g c = failed_by _ _ _ c.from_residual-in_err-fetched.ensures.1 (inr (
  c.in_ok-session.session,
  c.in_ok-session.ensures.opened,
  c.in_ok-session.ensures.named,
  c.in_ok-session.ensures.nameless,
  c.in_ok-session.ensures.state,
  inr (_, _, _, c.in_ok-map.ensures.mapped, c.in_ok-map.ensures.handshake, c.in_ok-map.ensures.name, c.in_err-fetched.ensures.refused),
))
