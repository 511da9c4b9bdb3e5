-- The capabilities of the lines so far.
use Rattle.std.proofs.Common.{◌≡◌, take, map}
use Rattle.bstr.specs.Owned.{bstring_bytes}
use Rattle.gixp_capabilities.specs.Capabilities.{capabilities_of_lines}
use Rattle.gixp_capabilities.proofs.capabilities.Capabilities.from_lines.Given as goal

abbrev pub invariant-loop-line : goal.invariant-loop-line
invariant-loop-line l = l.found ≡ capabilities_of_lines (map bstring_bytes (take l.line-index l.lines))
