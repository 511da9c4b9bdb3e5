use Rattle.gixp_client.proofs.PromiseLemmas.{one_run}
use Rattle.gixp_client.proofs.laws.sessions_are_runs.Goals as goal

pub returns : goal.returns
returns g c = λ plain parameters agent more request start shaken middle handshake kept made known boundary after consumer report new
    consumer' o m reads k f.
    one_run _ _ _ _ (c.headline.ensures.run plain) parameters agent more request start shaken middle handshake kept made known
    boundary after consumer
    report new consumer' o m reads k f
