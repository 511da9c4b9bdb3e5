-- Why all refs aren't listed.
use Rattle.std.proofs.Common.{inl, inr}
use Rattle.gixp_fetch_common.proofs.FailureLemmas.{unlisted_of}
use Rattle.gixp_fetch_common.proofs.session.list_for.Goals as goal

pub returns-in-Err-clause-refused : goal.returns-in-Err-clause-refused
returns-in-Err-clause-refused g c = record {
  error = c.in-Err.e;
  holds = elim c.in-Err.ensures.refused [
    | inl unsent ↦ inl unsent.1
    | inr x ↦ inr (unlisted_of x.0 _ _ c.in-Err.e x.2)
  ];
  reported = c.failure_of.ensures;
}
