use Rattle.std.proofs.Common.{refl, ap, ◌∙◌, inr, ◌++◌}
use Rattle.std.proofs.lemmas.Result.{err_from_is_err_and}
use Rattle.gixp_fetch.specs.FetchRounds.{before_request, at_request, after_request, at_answer, after_answer}
use Rattle.gixp_fetch.proofs.session.FetchSession.turn.Goals as goal

pub returns-in_err-push-clause-err : goal.returns-in_err-push-clause-err
returns-in_err-push-clause-err g c =
    let p = err_from_is_err_and c.from_residual-in_err-push.result c.from_residual-in_err-push.ensures.1 in
    rw (p.1, p.2) (inr (record {
      asked = c.one_round.new.arguments;
      round = c.in_ok-round.round;
      done = c.in_ok-round.done;
      window = c.one_round.new.state;
      negotiated = c.in_ok-round.ensures.went;
      breaks = before_request refl refl;
      asks = refl;
    }))

pub returns-in_err-so_far-clause-err : goal.returns-in_err-so_far-clause-err
returns-in_err-so_far-clause-err g c =
    let p = err_from_is_err_and c.from_residual-in_err-so_far.result c.from_residual-in_err-so_far.ensures.1 in
    rw (p.1, p.2) (inr (record {
      asked = c.one_round.new.arguments;
      round = c.in_ok-round.round;
      done = c.in_ok-round.done;
      window = c.one_round.new.state;
      negotiated = c.in_ok-round.ensures.went;
      breaks = after_request c.in_ok-send.ensures.sent (c.in_err-so_far.ensures.refused, refl);
      asks = refl;
    }))

pub returns-in_err-send-clause-err : goal.returns-in_err-send-clause-err
returns-in_err-send-clause-err g c =
    let p = err_from_is_err_and c.from_residual-in_err-send.result c.from_residual-in_err-send.ensures.1 in
    rw (p.1, p.2) (inr (record {
      asked = c.one_round.new.arguments;
      round = c.in_ok-round.round;
      done = c.in_ok-round.done;
      window = c.one_round.new.state;
      negotiated = c.in_ok-round.ensures.went;
      breaks = at_request c.in_err-send.field-0.0 c.in_err-send.ensures.sent refl;
      asks = refl;
    }))

pub returns-in_err-response-clause-err : goal.returns-in_err-response-clause-err
returns-in_err-response-clause-err g c =
    let p = err_from_is_err_and c.from_residual-in_err-response.result c.from_residual-in_err-response.ensures.1 in
    rw (p.1, p.2) (inr (record {
      asked = c.one_round.new.arguments;
      round = c.in_ok-round.round;
      done = c.in_ok-round.done;
      window = c.one_round.new.state;
      negotiated = c.in_ok-round.ensures.went;
      breaks =
          at_answer (g.T.ExtendedBufRead.reading c.send.new.transport) c.in_ok-send.ensures.sent c.in_err-response.field-0.0
          c.in_err-response.ensures.read c.in_err-response.ensures.held refl;
      asks = c.in_err-response.ensures.asks;
    }))

pub returns-in_err-extend_from_slice-clause-err : goal.returns-in_err-extend_from_slice-clause-err
returns-in_err-extend_from_slice-clause-err g c =
    let p = err_from_is_err_and c.from_residual-in_err-extend_from_slice.result c.from_residual-in_err-extend_from_slice.ensures.1 in
    rw (p.1, p.2) (inr (record {
      asked = c.one_round.new.arguments;
      round = c.in_ok-round.round;
      done = c.in_ok-round.done;
      window = c.one_round.new.state;
      negotiated = c.in_ok-round.ensures.went;
      breaks =
          after_answer (g.T.ExtendedBufRead.reading c.send.new.transport) c.in_ok-send.ensures.sent c.in_ok-response.response
          c.in_ok-response.ensures.read c.in_ok-response.ensures.held refl;
      asks = c.in_ok-response.ensures.asks;
    }))

pub returns-clause-ok : goal.returns-clause-ok
returns-clause-ok g c = record {
  round = c.in_ok-round.round;
  asked = c.one_round.new.arguments;
  sent = g.T.ExtendedBufRead.reading c.send.new.transport;
  reported = c.in_ok-push.ensures.items;
  gathered = c.in_ok-extend_from_slice.ensures.items ∙ ap (λ x. c.args.so_far.now.updates.items ++ x) c.shallow_updates.ensures;
  turn = λ start polled. record {
    asks = (c.args.self.now.interrupt.now, polled, c.in_ok-response.ensures.asks);
    negotiated = c.in_ok-round.ensures.went;
    sends = c.in_ok-send.ensures.sent;
    rest = c.in_ok-send.ensures.ok;
    answer = c.in_ok-response.ensures.read;
    held = c.in_ok-response.ensures.held;
    previous = refl;
  };
}
