use Rattle.std.proofs.Common.{refl}
use Rattle.std.specs.Prelude.{Err}
use Rattle.gixp_fetch.specs.declared.error.Error.TheVariants.{Memory}
use Rattle.gixp_client.proofs.RunLemmas.{as_session, unbegun}
use Rattle.gixp_client.proofs.run.fetch_over.Goals as goal

pub returns-clause-fetched : goal.returns-clause-fetched
returns-clause-fetched g c = record {
  received = c.fetch_with_features-received.result;
  reports = c.report.ensures;
  holds = record {
    interrupt = _;
    interrupt' = _;
    progress = _;
    carries = as_session _ _ _ _ _ _ c.args.peer.shaken.now c.args.request.now _ _ _ _ _
        c.table.ensures c.named.ensures c.in-Ok.ensures c.sent_tags-tags.ensures c.fetch_with_features-received.ensures.fetched;
  };
}

pub returns-in_default-clause-fetched : goal.returns-in_default-clause-fetched
returns-in_default-clause-fetched g c = record {
  received = Err Memory;
  reports = refl;
  holds = record {
    interrupt = record {};
    interrupt' = record {};
    progress = c.args.peer.progress.now;
    carries = unbegun _ _ _ _;
  };
}
