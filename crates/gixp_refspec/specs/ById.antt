-- Refspecs that name objects by their ids. For these git lists no refs (git-fetch, "<refspec>").
use Rattle.std.specs.Prelude.{◌&&◌, ◌==◌, not, Bool, List, length, is_some}
use Rattle.std.specs.List.{list_all}
use Rattle.gixp_hash.specs.ObjectId.{id_of}
use Rattle.gixp_refspec.specs.Spec.{Spec}

-- the source is an object id
abbrev pub is_by_id : Spec → Bool
is_by_id spec = is_some (id_of spec.source)

-- no refspec names a ref: there are explicit refspecs, there are no extra ones, and each source is an object id
abbrev pub name_ids : (explicit extra : List Spec) → Bool
name_ids explicit extra = not (length explicit == 0) && length extra == 0 && list_all is_by_id explicit
