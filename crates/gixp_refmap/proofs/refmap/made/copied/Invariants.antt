use Rattle.std.proofs.Common.{take, map}
use Rattle.std.specs.List.{AllZip}
use Rattle.gixp_refs.specs.Ref.{ref_value}
use Rattle.gixp_matching.specs.MatchGroup.{group_specs}
use Rattle.gixp_refmap.specs.Made.{IsMade}
use Rattle.gixp_refmap.proofs.refmap.made.copied.Given as goal

abbrev pub invariant-places : goal.invariant-places
invariant-places l = AllZip (IsMade (map ref_value l.refs) (group_specs l.group)) (take l.place-index l.places) l.made.items
