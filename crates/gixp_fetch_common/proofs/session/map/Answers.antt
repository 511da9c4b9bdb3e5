-- Why there is no ref map.
use Rattle.std.proofs.Common.{inl, inr}
use Rattle.gixp_fetch_common.proofs.FailureLemmas.{unasked_then, unmapped_of}
use Rattle.gixp_fetch_common.proofs.session.map.Goals as goal

pub returns-in-Err-map-clause-refused : goal.returns-in-Err-map-clause-refused
returns-in-Err-map-clause-refused g c = record {
  error = c.in-Err-map.e;
  holds = elim c.in-Err-map.ensures.refused [
    | inl unsent ↦ inl (unasked_then _ _ _ _ _ _ _ _ _ _ c.in-Ok.ensures.listed c.in-Ok.ensures.stays unsent.1)
    | inr x ↦ inr (unmapped_of x.0 _ _ c.in-Err-map.e x.2)
  ];
  reported = c.failure_of.ensures;
}
