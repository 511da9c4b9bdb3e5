use Rattle.gixp_fetch.specs.FetchShallow.{shallow_value}
use Rattle.gixp_engine.proofs.AloneLemmas.{carries-call}
use Rattle.gixp_engine.proofs.session.fetch_over.Goals as goal

pub returns : goal.returns
returns g c = record {
  interrupt = _;
  consumer = _;
  interrupt' = _;
  consumer' = _;
  progress = _;
  carries =
      carries-call _ _ _ _ _ c.args.peer.handshake.now (shallow_value c.args.shallow.now) _ _ c.engine_table.ensures c.requires c.fetch-fetched.ensures.fetched;
}
