use Rattle.gixp_plain_requests.proofs.RequestLemmas.{lines_more, fit_more, rest_more}
use Rattle.gixp_plain_requests.proofs.request.first_lines.Goals as goal

pub loop-line-preserved : goal.loop-line-preserved
loop-line-preserved c = record {
  lines = lines_more _ _ _ _ _ _ c.loop-line.invariant.lines c.in-Some.ensures.lines c.in_ok-push.ensures.items;
  fit = fit_more _ _ _ c.loop-line.invariant.fit c.in-Some.ensures.fits c.in_ok-push.ensures.items;
  rest = rest_more _ _ _ _ _ _ c.loop-line.invariant.rest c.in-Some.ensures.rest c.in_ok-push.ensures.items;
}
