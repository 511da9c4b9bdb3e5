-- The lines so far were appended.
use Rattle.std.proofs.Common.{◌≡◌, ◌++◌, take, map}
use Rattle.bstr.specs.Owned.{bstring_bytes}
use Rattle.gixp_transport.specs.Message.{text, message_value}
use Rattle.gixp_requests.proofs.fetch.arguments.messages.push_lines.Given as goal

abbrev pub invariant-loop-line : goal.invariant-loop-line
invariant-loop-line l = map message_value l.messages.items ≡ map message_value l.initial.messages.items
    ++ map text (take l.line-index (map bstring_bytes l.lines))
