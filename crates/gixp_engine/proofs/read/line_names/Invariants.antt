use Rattle.std.proofs.Common.{◌≡◌, map, take}
use Rattle.bstr.specs.BStr.{bstr_bytes}
use Rattle.gixp_refspec.specs.PartialName.{name_bytes}
use Rattle.gixp_engine.proofs.read.line_names.Given as goal

abbrev pub invariant-loop-line : goal.invariant-loop-line
invariant-loop-line l = map name_bytes l.names.items ≡ map bstr_bytes (take l.line-index l.lines)
