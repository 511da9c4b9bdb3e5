use Rattle.gixp_refmap.specs.Listing.{listing_of}
use Rattle.gixp_handshake.proofs.ObtainLemmas.{fetches_mappings}
use Rattle.gixp_handshake.proofs.ObtainProgressLemmas.{moved_told}
use Rattle.gixp_handshake.proofs.handshake.ref_map.fetch_mappings.Goals as goal

pub returns-in-Ok-clause-map : goal.returns-in-Ok-clause-map
returns-in-Ok-clause-map g c =
    fetches_mappings (listing_of c.args.command) c.args.context g.T.ExtendedBufRead.is_plain
    (g.T.ExtendedBufRead.reading c.args.transport.now) (g.T.ExtendedBufRead.reading c.invoke_blocking.new.transport) c.in-Ok.refs
    c.capabilities-capabilities.result.now c.in-Ok.ensures.lists c.capabilities-capabilities.ensures c.make_mappings.result
    c.make_mappings.ensures

pub returns-in-Ok-clause-reported : goal.returns-in-Ok-clause-reported
returns-in-Ok-clause-reported g c =
    moved_told g.P.Progress.reported c.args.progress.now c.invoke_blocking.new.progress c.capabilities-capabilities.result.now c.args.context
    c.in-Ok.refs.items c.make_mappings.result c.in-Ok.ensures.reported c.make_mappings.ensures
