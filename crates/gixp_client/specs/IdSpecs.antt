-- Refspecs that name objects by their ids. For these git lists no refs (git-fetch, "<refspec>").
use Rattle.std.specs.Prelude.{◌≡◌, Bool, true, false, [], Option, Some, None, Vec}
use Rattle.std.specs.declared.alloc.Global.{Global}
use Rattle.gixp_refs.specs.declared.handshake.Ref.{Ref}
use Rattle.gixp_refspec.specs.ById.{name_ids}
use Rattle.gixp_refmap.specs.Values.{ContextValue}

abbrev pub are_ids : ContextValue → Bool
are_ids c = name_ids c.explicit c.extra

-- the refs from which a ref map is made: those that the session has; for ids no refs; otherwise the server lists them
abbrev pub SeesRefs : (are_ids : Bool) → Option (Vec Ref Global) → Option (Vec Ref Global) → Type 0
SeesRefs by_id (Some refs) seen = seen ≡ Some refs
SeesRefs true None seen = (none : Vec Ref Global) × (none.items ≡ []) × (seen ≡ Some none)
SeesRefs false None seen = seen ≡ None
