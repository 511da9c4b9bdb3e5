use Rattle.std.proofs.Common.{◌<◌, ◌≡◌, false, length, map, ap, ◌∙◌, subst, arith}
use Rattle.std.proofs.lemmas.List.{length-map}
use Rattle.bstr.specs.Owned.{bstring_bytes}
use Rattle.gixp_transport.specs.Message.{message_value}
use Rattle.gixp_requests.specs.Line.{line_text, have_text}
use Rattle.gixp_requests.specs.Request.{SendsValues}
use Rattle.gixp_requests.proofs.RequestLemmas.{command_joined}
use Rattle.gixp_requests.proofs.fetch.arguments.messages.send_command.Goals as goal

pub returns : goal.returns
returns g c =
    let haves = map have_text c.args.haves.now in
    let n = length-map c.args.haves.now have_text in
    let some = λ (e : c.args.done ≡ false). let have : 0 < length c.args.haves.now = c.requires e in
    let t : 0 < length haves = omega arith in t in
    let old = g.T.ExtendedBufRead.reading c.args.transport.now in
    let new = g.T.ExtendedBufRead.reading c.send_arguments.new.transport in
    subst (λ vs. SendsValues old new vs c.send_arguments.result)
    (command_joined (map message_value c.deref.result.now) (map bstring_bytes c.args.features.now) (map line_text c.args.lines.now)
    haves c.args.done some (ap (map message_value) c.deref.ensures.value ∙ c.in_ok-messages.ensures)) c.send_arguments.ensures
