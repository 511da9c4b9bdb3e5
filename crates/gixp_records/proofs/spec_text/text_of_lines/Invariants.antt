use Rattle.std.proofs.Common.{◌≡◌, map, take}
use Rattle.std.specs.List.{flat_map}
use Rattle.bstr.specs.Owned.{bstring_bytes}
use Rattle.gixp_records.specs.SpecText.{ended_line}
use Rattle.gixp_records.proofs.spec_text.text_of_lines.Given as goal

abbrev pub invariant-loop-line : goal.invariant-loop-line
invariant-loop-line l = l.text.items ≡ flat_map ended_line (map bstring_bytes (take l.line-index l.lines))
