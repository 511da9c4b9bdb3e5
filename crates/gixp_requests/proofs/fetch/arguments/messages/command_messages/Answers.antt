use Rattle.std.proofs.Common.{[], ◌∷◌, ◌++◌, map, ap, ◌∙◌}
use Rattle.std.specs.Prelude.{codes}
use Rattle.bstr.specs.Owned.{bstring_bytes}
use Rattle.gixp_transport.specs.Message.{text, delimiter, message_value}
use Rattle.gixp_requests.proofs.fetch.arguments.messages.command_messages.Goals as goal

pub returns : goal.returns
returns c =
    let features = map text (map bstring_bytes c.args.features.now) in
    let first = c.in_ok-push.ensures ∙ ap (λ t. map message_value t ++ text (codes "command=fetch") ∷ []) c.in_ok-messages.ensures.items in
    c.in_ok-push-2.ensures ∙ ap (λ t. t ++ delimiter ∷ []) (c.in_ok-push_lines.ensures ∙ ap (λ t. t ++ features) first)
