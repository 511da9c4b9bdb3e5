use Rattle.gixp_fetch_cli.specs.Report.{ref_lines}
use Rattle.gixp_utils.proofs.AppendedLemmas.{left-at, each-more}
use Rattle.gixp_fetch_cli.proofs.report.listing.Goals as goal

pub loop-found-preserved : goal.loop-found-preserved
loop-found-preserved c =
    each-more ref_lines _ _ _ _ _ c.found-item.result _ c.loop-found.invariant
    (left-at c.args.refs.now c.loop-found.found-index c.found-item.result c.loop-found-test.true c.found-item.is)
    c.in_ok-append_ref.ensures
