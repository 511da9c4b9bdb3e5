use Rattle.gixp_negotiators.proofs.skipping.SkippingNegotiator.next_have.Goals as goal

pub returns-in-Ok-Some-clause-offered : goal.returns-in-Ok-Some-clause-offered
returns-in-Ok-Some-clause-offered g c = record {
  grows = c.next.ensures.looks.grows;
  offers = rw c.in-Ok-Some.field-0-is at c.in-Ok-Some.ensures.offered;
  unlisted = c.in-Ok-Some.ensures.lists;
  distances = rw c.in-Ok-Some.field-0-is at c.in-Ok-Some.ensures.distances;
  picks = rw c.in-Ok-Some.field-0-is at c.in-Ok-Some.ensures.newest;
  ends = rw c.in-Ok-Some.field-0-is at c.in-Ok-Some.ensures.ends;
  offers_none = rw c.in-Ok-Some.field-0-is at c.in-Ok-Some.ensures.offers_none;
  queues = c.in-Ok-Some.ensures.queues;
  unread = c.in-Ok-Some.ensures.unread;
  fits = c.in-Ok-Some.ensures.fits;
}
