-- Both options are sent, one after the other.
use Rattle.gixp_remote_session.proofs.WebLemmas.{both_sent}
use Rattle.gixp_remote_session.proofs.web.set_options.Goals as goal

pub returns-clause-sent : goal.returns-clause-sent
returns-clause-sent g c =
    both_sent c.args.is_quiet c.args.family (g.W.Write.contents c.args.to.now) (g.W.Write.contents c.set_option.new.to)
    (g.W.Write.contents c.set_option-2.new.to) c.is_limited.result c.family_line.result.now c.in_ok-set_option.ensures.sent
    c.in_ok-set_option-2.ensures.sent c.is_limited.ensures c.family_line.ensures
