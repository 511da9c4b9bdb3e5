use Rattle.std.proofs.Common.{◌≡◌, map, take}
use Rattle.bstr.specs.BStr.{bstr_bytes}
use Rattle.gixp_refspec.specs.Texts.{texts}
use Rattle.gixp_refspec.specs.Spelling.{spelled}
use Rattle.gixp_records.proofs.spelling.spelled_lines.Given as goal

abbrev pub invariant-loop-line : goal.invariant-loop-line
invariant-loop-line l = texts l.found ≡ map spelled (map bstr_bytes (take l.line-index l.lines))
