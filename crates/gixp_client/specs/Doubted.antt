-- The offered objects that a fetch doesn't take as complete unless a ref reaches them.
use Rattle.std.specs.Prelude.{◌≡◌, ◌&&◌, ⊤, Bool, true, false, if◌then◌else◌, List, [], Option, Some, None, option_and_then}
use Rattle.std.specs.List.{filter_map}
use Rattle.std.specs.FinMap as finite
use Rattle.gixp_hash.specs.declared.object_id.ObjectId.{ObjectId}
use Rattle.gixp_graph.specs.Object.{Objects}
use Rattle.gixp_negotiate.specs.Marking.{LocalRefs, is_changed}
use Rattle.gixp_negotiate.specs.NegotiationMapping.{mapping_id}
use Rattle.gixp_refmap.specs.declared.refmap.mapping.Mapping.{Mapping}
use Rattle.gixp_client.specs.declared.error.Error.{Error}
use Rattle.gixp_client.specs.declared.error.Error.TheVariants.{Objects as UnreadObjects, LocalRefs as UnreadRefs, Memory}

-- the id of a mapping, if its object exists though the local ref of the mapping has another id
abbrev pub doubted_id : Objects → LocalRefs → Mapping → Option ObjectId
doubted_id objects refs m =
    option_and_then (λ id. if is_changed refs m && finite.contains_key objects id then Some id else None) (mapping_id m)

-- the ids in doubt: none, if the objects are trusted
abbrev pub doubted : (trusts : Bool) → Objects → LocalRefs → List Mapping → List ObjectId
doubted true objects refs ms = []
doubted false objects refs ms = filter_map (doubted_id objects refs) ms

-- the repository couldn't be read, which is read only if its objects aren't trusted
abbrev pub IsReadFailure : (trusts : Bool) → Error → Type 0
IsReadFailure trusts (UnreadObjects e) = trusts ≡ false
IsReadFailure trusts (UnreadRefs e) = trusts ≡ false
IsReadFailure trusts Memory = ⊤
IsReadFailure trusts _ = ⊥
