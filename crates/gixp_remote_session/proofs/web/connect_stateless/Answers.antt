-- The replies, one after the other.
use Rattle.std.proofs.Common.{◌≡◌, length, rules}
use Rattle.std.specs.Prelude.{◌==◌, codes}
use Rattle.gixp_remote_session.specs.WebServer.{options_sent}
use Rattle.gixp_remote_session.proofs.WebLemmas.{carried, appends_then}
use Rattle.gixp_remote_session.proofs.web.connect_stateless.Goals as goal

pub returns-clause-carries : goal.returns-clause-carries
returns-clause-carries g c =
    let empty : c.is_empty.result ≡ (length c.in_ok-line.line.items == 0) = search rules in
    carried c.args.is_quiet c.args.family (g.R.Read.remaining c.args.from.now) (g.R.Read.remaining c.set_options.new.from)
    c.in_ok-line.line.items c.is_empty.result c.in_ok-set_options.ensures.rest c.in_ok-line.ensures.line empty

pub returns-clause-sent : goal.returns-clause-sent
returns-clause-sent g c =
    appends_then (g.W.Write.contents c.args.to.now) (g.W.Write.contents c.set_options.new.to) (g.W.Write.contents c.ask.new.to)
    (options_sent c.args.is_quiet c.args.family) (codes "stateless-connect git-upload-pack\n") c.in_ok-set_options.ensures.sent
    c.in_ok-line.ensures.sent
