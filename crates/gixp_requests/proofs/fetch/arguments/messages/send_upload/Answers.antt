-- The parts of the request; the two lines are exchanged back.
use Rattle.std.proofs.Common.{map, ap, subst, ◌∙◌}
use Rattle.gixp_requests.specs.Line.{line_text, have_text}
use Rattle.gixp_requests.specs.Request.{SendsValues, exchanged}
use Rattle.gixp_requests.proofs.RequestLemmas.{exchanged_twice, map-exchanged, upload_joined}
use Rattle.gixp_requests.proofs.fetch.arguments.messages.send_upload.Goals as goal

pub returns-clause-sends : goal.returns-clause-sends
returns-clause-sends g c =
    let lines = map line_text c.args.lines.now in
    let place = c.first_want-place.result in
    let first = ap (map line_text) c.exchange.ensures ∙ map-exchanged line_text c.args.lines.now place
    ∙ ap (exchanged lines) c.first_want-place.ensures.place in
    let old = g.T.ExtendedBufRead.reading c.args.transport.now in
    let new = g.T.ExtendedBufRead.reading c.send-sent.new.transport in
    subst (λ vs. SendsValues old new vs c.send-sent.result)
    (upload_joined _ lines (map have_text c.args.haves.now) _ _ c.args.done first c.flush_after-flush.ensures c.upload_end.ensures)
    c.send-sent.ensures

pub returns-clause-same : goal.returns-clause-same
returns-clause-same g c =
    let place = c.first_want-place.result in
    c.exchange-2.ensures ∙ ap (λ xs. exchanged xs place) c.exchange.ensures
    ∙ exchanged_twice c.args.lines.now place c.first_want-place.ensures.within
