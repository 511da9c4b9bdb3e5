-- The objects that the helper wants from a server.
use Rattle.std.specs.Prelude.{None}
use Rattle.gix_protocol.specs.ObjectIdType.{ObjectId}
use Rattle.gix_protocol.specs.SpecIndexType.TheVariants.{ExplicitInRemote}
use Rattle.gix_protocol.specs.Values.{MappingValue, an_object}

-- an object by its id
abbrev pub wanted : ObjectId → MappingValue
wanted id = record { remote = an_object id; local = None; spec_index = ExplicitInRemote 0 }
