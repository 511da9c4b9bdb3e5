-- The boundary that is lent is that of the repository.
use Rattle.gixp_fetch_common.proofs.BoundaryLemmas.{of_boundary}
use Rattle.gixp_fetch_common.proofs.session.fetch.Goals as goal

pub returns-in-Ok-clause-fetched : goal.returns-in-Ok-clause-fetched
returns-in-Ok-clause-fetched g c = of_boundary _ _ _ c.deref.ensures.value c.in-Ok.ensures.fetched

pub returns-in-Ok-clause-known : goal.returns-in-Ok-clause-known
returns-in-Ok-clause-known g c = rw c.deref.ensures.value at c.in-Ok.ensures.known

pub returns-in-Err-clause-refused : goal.returns-in-Err-clause-refused
returns-in-Err-clause-refused g c = record {
  error = c.in-Err.e;
  holds = of_boundary _ _ _ c.deref.ensures.value c.in-Err.ensures.refused;
  reported = c.failure_of.ensures;
}
