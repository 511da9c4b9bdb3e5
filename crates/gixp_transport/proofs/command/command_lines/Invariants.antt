use Rattle.std.proofs.Common.{◌≡◌, take, map}
use Rattle.bstr.specs.Owned.{bstring_bytes}
use Rattle.gixp_transport.specs.Message.{command_lines, feature_lines}
use Rattle.gixp_transport.proofs.command.command_lines.Given as goal

abbrev pub invariant-loop-name : goal.invariant-loop-name
invariant-loop-name l = map bstring_bytes l.lines.items ≡ command_lines l.command (feature_lines (take l.name-index l.features))
