use Rattle.std.proofs.Common.{[], ◌∷◌, ◌++◌, map, ap, ◌∙◌}
use Rattle.bstr.specs.Owned.{bstring_bytes}
use Rattle.gixp_transport.specs.Message.{text, message_value}
use Rattle.gixp_requests.proofs.AppendLemmas.{joined_read}
use Rattle.gixp_requests.proofs.RequestLemmas.{texts-append}
use Rattle.gixp_requests.proofs.fetch.arguments.messages.push_lines.Goals as goal

pub loop-line-preserved : goal.loop-line-preserved
loop-line-preserved c =
    joined_read (map text) texts-append bstring_bytes
    (map message_value c.args.messages.now.items) (map message_value c.loop-line.messages.items)
    (map message_value c.push.new.messages.items) c.args.lines.now c.loop-line.line-index
    c.line-item.result c.line-item.is c.loop-line-test.true c.loop-line.invariant
    (c.in_ok-push.ensures ∙ ap (λ t. map message_value c.loop-line.messages.items ++ text t ∷ []) c.as_bytes.ensures)
