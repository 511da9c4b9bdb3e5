use Rattle.std.proofs.Common.{flat_map, drop, []}
use Rattle.gixp_fetch_cli.specs.Report.{ref_lines}
use Rattle.gixp_utils.proofs.AppendedLemmas.{Partly}
use Rattle.gixp_fetch_cli.proofs.report.listing.Given as goal

abbrev pub invariant-loop-found : goal.invariant-loop-found
invariant-loop-found l = Partly [] l.text.items (flat_map ref_lines (drop l.found-index l.refs)) (flat_map ref_lines l.fn.refs)
