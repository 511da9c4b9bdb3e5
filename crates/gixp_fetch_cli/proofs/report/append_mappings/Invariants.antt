-- What was told, and what is to come.
use Rattle.std.proofs.Common.{◌≡◌, ◌++◌, flat_map, drop}
use Rattle.std.specs.List.{enumerate_from}
use Rattle.gixp_fetch_cli.specs.Report.{numbered_line, mapping_lines}
use Rattle.gixp_fetch_cli.proofs.report.append_mappings.Given as goal

abbrev pub invariant-mappings : goal.invariant-mappings
invariant-mappings l = l.text.items ++ flat_map (numbered_line l.changes) (enumerate_from l.index (drop l.index l.mappings))
    ≡ l.fn.text.items ++ mapping_lines l.changes l.mappings
