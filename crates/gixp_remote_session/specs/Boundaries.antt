-- The shallow boundary that is written after a fetch (gitrepository-layout, "shallow").
use Rattle.std.specs.Prelude.{List, ◌++◌}
use Rattle.gix_protocol.specs.ObjectIdType.{ObjectId}
use Rattle.gixp_remote_rules.specs.ShallowBoundary.{AfterFetch, stays, becomes, grows, refused}

-- the boundary after the fetch
abbrev pub boundary_then : List ObjectId → AfterFetch → List ObjectId
boundary_then old stays = old
boundary_then old (becomes ids) = ids
boundary_then old (grows ids) = old ++ ids
boundary_then old (refused id) = old
