use Rattle.std.proofs.Common.{refl, inr}
use Rattle.gixp_client.proofs.MapLemmas.{as_lists, refused_by, asked_calls}
use Rattle.gixp_client.proofs.session.Session.ask_refs.Goals as goal

pub returns-in-Ok-clause-listed : goal.returns-in-Ok-clause-listed
returns-in-Ok-clause-listed g c = (
  c.in-Ok.refs,
  as_lists _ _ _ _ _ _ _ _ _ _ c.git-table.ensures c.in_ok-name.ensures
      c.in_ok-command.ensures c.in-Ok.ensures.listed.0 c.invoke_blocking-listed.ensures.lists,
  refl,
)

pub returns-in-Err-clause-refused : goal.returns-in-Err-clause-refused
returns-in-Err-clause-refused g c = inr (
  c.invoke_blocking-listed.result,
  as_lists _ _ _ _ _ _ _ _ _ _ c.git-table.ensures c.in_ok-name.ensures
      c.in_ok-command.ensures refl c.invoke_blocking-listed.ensures.lists,
  refused_by _ _ _ _ _ c.in-Err.ensures.whole c.is_at_flush.ensures,
  c.state_after_refusal-self.ensures,
  refl,
)

pub returns-in-Err-clause-report : goal.returns-in-Err-clause-report
returns-in-Err-clause-report g c = asked_calls g.P.Progress.reported _ _ _ c.invoke_blocking-listed.ensures.reported
