-- Only the lines that remain can have the value.
use Rattle.std.proofs.Common.{◌≡◌, map, drop}
use Rattle.bstr.specs.BStr.{bstr_bytes}
use Rattle.gixp_remote_rules.specs.Environment.{first_value}
use Rattle.gixp_remote_rules.proofs.environment.first_value.Given as goal

abbrev pub invariant-lines : goal.invariant-lines
invariant-lines l = first_value (map bstr_bytes l.lines) l.front ≡ first_value (map bstr_bytes (drop l.line-index l.lines)) l.front
