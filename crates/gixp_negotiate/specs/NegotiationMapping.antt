-- The parts of mappings that a negotiation reads.
use Rattle.std.specs.Prelude.{◌≡◌, Bool, true, false, Option}
use Rattle.gixp_hash.specs.declared.object_id.ObjectId.{ObjectId}
use Rattle.gixp_refs.specs.declared.handshake.Ref.{Ref}
use Rattle.gixp_refs.specs.declared.handshake.Ref.TheVariants.{Unborn}
use Rattle.gixp_refmap.specs.Mapping.{source_id}
use Rattle.gixp_refmap.specs.declared.refmap.mapping.Source.{Source}
use Rattle.gixp_refmap.specs.declared.refmap.mapping.Source.TheVariants.{ObjectId as ById, Ref as ByRef}
use Rattle.gixp_refmap.specs.declared.refmap.mapping.Mapping.{Mapping}

-- an unborn ref
abbrev pub is_unborn_ref : Ref → Bool
is_unborn_ref (Unborn name target) = true
is_unborn_ref _ = false

abbrev pub is_unborn : Source → Bool
is_unborn (ById id) = false
is_unborn (ByRef found) = is_unborn_ref found

-- the id of a mapping's source
abbrev pub mapping_id : Mapping → Option ObjectId
mapping_id m = source_id m.remote

-- the result of the caller's test is a function of the mapping
abbrev pub Follows : (Mapping → Bool → Type 0) → (Mapping → Bool) → Type 0
Follows returns ignores = (m : Mapping) (b : Bool) → returns m b → b ≡ ignores m
