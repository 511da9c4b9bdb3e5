-- Refspecs that name objects by their ids. For these git lists no refs (git-fetch, "<refspec>").
use Rattle.std.specs.Prelude.{◌&&◌, Bool, is_none}
use Rattle.gixp_refspec.specs.ById.{name_ids}
use Rattle.gixp_refmap.specs.Values.{ContextValue, context_value}
use Rattle.gixp_refmap.specs.declared.refmap.init.Context.{Context}
use Rattle.gixp_handshake.specs.declared.handshake.read.Handshake.{Handshake}

abbrev pub are_ids : ContextValue → Bool
are_ids c = name_ids c.explicit c.extra

-- the server needn't list its refs: no refspec names one, and the handshake has none, as under version 2
abbrev pub needs_no_list : Context → Handshake → Bool
needs_no_list context h = is_none h.refs && are_ids (context_value context)
