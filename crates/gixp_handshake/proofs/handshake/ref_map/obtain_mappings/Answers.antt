use Rattle.gixp_requests.specs.Feature.{feature_value}
use Rattle.gixp_requests.specs.Command.{table_of}
use Rattle.gixp_handshake.proofs.ObtainLemmas.{shown_mappings, listed_mappings, unlisted_mappings}
use Rattle.gixp_handshake.proofs.handshake.ref_map.obtain_mappings.Goals as goal

pub returns-in-Some-clause-map : goal.returns-in-Some-clause-map
returns-in-Some-clause-map g c =
    shown_mappings (table_of c.args.table.now) (feature_value c.args.agent) c.args.context c.args.handshake.now c.take_refs.new.self
    g.T.ExtendedBufRead.is_plain (g.T.ExtendedBufRead.reading c.args.transport.now) c.take_refs.ensures.rest c.in-Some.refs
    c.in-Some.ensures.refs c.make_mappings.result c.make_mappings.ensures

pub returns-in_ok-command-in-None-clause-map : goal.returns-in_ok-command-in-None-clause-map
returns-in_ok-command-in-None-clause-map g c =
    listed_mappings (table_of c.args.table.now) (feature_value c.args.agent) c.args.context c.args.handshake.now c.take_refs.new.self
    g.T.ExtendedBufRead.is_plain (g.T.ExtendedBufRead.reading c.args.transport.now) c.take_refs.ensures.rest c.in-None.ensures.refs
    c.in_ok-command-in-None.command c.in_ok-command-in-None.ensures (g.T.ExtendedBufRead.reading c.fetch_mappings.new.transport)
    c.fetch_mappings.result c.fetch_mappings.ensures.map

pub returns-in_err-command-in-None-clause-map : goal.returns-in_err-command-in-None-clause-map
returns-in_err-command-in-None-clause-map g c =
    unlisted_mappings (table_of c.args.table.now) (feature_value c.args.agent) c.args.context c.args.handshake.now c.take_refs.new.self
    g.T.ExtendedBufRead.is_plain (g.T.ExtendedBufRead.reading c.args.transport.now) c.take_refs.ensures.rest c.in-None.ensures.refs
    c.from_residual.result c.from_residual.ensures.0 c.from_residual.ensures.1
