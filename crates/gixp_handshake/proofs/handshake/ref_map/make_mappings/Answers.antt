use Rattle.gixp_handshake.proofs.ObtainLemmas.{makes_mappings}
use Rattle.gixp_handshake.proofs.handshake.ref_map.make_mappings.Goals as goal

pub returns : goal.returns
returns c =
    makes_mappings c.args.capabilities.now c.args.context c.args.refs c.mappings_only.result c.mappings_only.ensures.maps
    c.mappings_only.ensures.filtered c.mappings_only.ensures.found c.mappings_only.ensures.refs c.mappings_only.ensures.explicit
    c.mappings_only.ensures.extra
