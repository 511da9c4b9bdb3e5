use Rattle.std.proofs.Common.{flat_map, drop}
use Rattle.gixp_fetch_cli.specs.Report.{default_of_ref}
use Rattle.gixp_utils.proofs.AppendedLemmas.{Partly}
use Rattle.gixp_fetch_cli.proofs.report.append_defaults.Given as goal

abbrev pub invariant-loop-found : goal.invariant-loop-found
invariant-loop-found l = Partly l.fn.text.items l.text.items (flat_map default_of_ref (drop l.found-index l.refs))
    (flat_map default_of_ref l.fn.refs)
