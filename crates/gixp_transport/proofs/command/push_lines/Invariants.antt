use Rattle.std.proofs.Common.{◌≡◌, ◌++◌, take, map}
use Rattle.bstr.specs.Owned.{bstring_bytes}
use Rattle.gixp_transport.specs.Message.{text, message_value}
use Rattle.gixp_transport.proofs.command.push_lines.Given as goal

abbrev pub invariant-loop-line : goal.invariant-loop-line
invariant-loop-line l = map message_value l.messages.items ≡ map message_value l.fn.messages.items
    ++ map text (map bstring_bytes (take l.line-index l.lines))
