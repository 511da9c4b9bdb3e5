-- An option more and its reply, or none.
use Rattle.std.proofs.Common.{length, ◌∙◌, sym}
use Rattle.gixp_remote_rules.proofs.RelayLemmas.{appends_nothing, text_sent, replies_begin, replies_go_on, replies_stop}
use Rattle.gixp_remote_rules.proofs.relay_answer.send_options.Goals as goal

pub options-init : goal.options-init
options-init g c = record {
  sent = appends_nothing (g.W.Write.contents c.args.to.now);
  replied = replies_begin (g.R.Read.remaining c.args.from.now);
}

pub options-preserved : goal.options-preserved
options-preserved g c = record {
  sent = text_sent c.args.options.now c.options.option-index c.option-item.result (g.W.Write.contents c.args.to.now)
      (g.W.Write.contents c.options.to) (g.W.Write.contents c.write_all.new.self) (g.W.Write.contents c.flush.new.self)
      c.as_bytes.result.now c.options-test.true c.option-item.is c.as_bytes.ensures c.options.invariant.sent
      c.in_ok-write_all.ensures.bytes c.flush.ensures.bytes;
  replied = replies_go_on c.options.option-index (g.R.Read.remaining c.args.from.now) (g.R.Read.remaining c.options.from)
      (g.R.Read.remaining c.read_line.new.from) c.options.invariant.replied c.in_ok-read_line.ensures.rest;
}

pub returns-in-Cut-clause-exited : goal.returns-in-Cut-clause-exited
returns-in-Cut-clause-exited g c = λ _.
    replies_stop c.options.option-index (length c.args.options.now) (g.R.Read.remaining c.args.from.now)
    (g.R.Read.remaining c.options.from) c.read_line.new.line.items c.options-test.true c.options.invariant.replied
    c.in_ok-read_line.ensures.bytes (sym c.in_ok-read_line.ensures.line ∙ c.in-Cut.is)
