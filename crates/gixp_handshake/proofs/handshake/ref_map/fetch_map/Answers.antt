use Rattle.gixp_handshake.proofs.ObtainProgressLemmas.{listed_told}
use Rattle.gixp_handshake.proofs.handshake.ref_map.fetch_map.Goals as goal

pub returns-in-Ok-clause-reported : goal.returns-in-Ok-clause-reported
returns-in-Ok-clause-reported g c =
    listed_told g.P.Progress.reported c.args.progress.now c.invoke_blocking.new.progress c.capabilities-capabilities.result.now c.args.context
    c.in-Ok.refs.items c.make_map.result c.in-Ok.ensures.reported c.make_map.ensures
