use Rattle.gixp_requests.specs.Feature.{feature_value}
use Rattle.gixp_requests.specs.Command.{table_of}
use Rattle.gixp_planner.proofs.SessionLemmas.{maps-refs}
use Rattle.gixp_planner.proofs.session.map_refs.Goals as goal

pub returns-clause-map : goal.returns-clause-map
returns-clause-map g c =
    maps-refs c.args.context c.args.handshake.now g.T.ExtendedBufRead.is_plain (g.T.ExtendedBufRead.reading c.args.transport.now)
    (g.T.ExtendedBufRead.reading c.obtain_mappings.new.transport) (table_of c.git-table.result) (feature_value c.in_ok-agent.agent)
    c.git-table.ensures c.in_ok-agent.ensures c.obtain_mappings.result c.obtain_mappings.ensures.map
