use Rattle.std.proofs.Common.{◌++◌, map, ap, subst, ◌∙◌, append-nil}
use Rattle.gixp_transport.specs.Message.{text, message_value}
use Rattle.gixp_requests.specs.Line.{line_text, have_text}
use Rattle.gixp_requests.specs.Request.{SendsValues}
use Rattle.gixp_requests.proofs.fetch.arguments.messages.send_arguments.Goals as goal

pub returns : goal.returns
returns g c =
    let front = map message_value c.args.front.now in
    let lines = map text (map line_text c.args.arguments.now) in
    let haves = map text (map have_text c.args.haves.now) in
    let old = g.T.ExtendedBufRead.reading c.args.transport.now in
    let new = g.T.ExtendedBufRead.reading c.send.new.transport in
    subst (λ vs. SendsValues old new vs c.send.result)
    (ap (λ t. front ++ (lines ++ (haves ++ t))) (append-nil (map message_value c.command_end.result.now) ∙ c.command_end.ensures))
    c.send.ensures
