use Rattle.std.proofs.Common.{◌≡◌, take, map}
use Rattle.gixp_matching.specs.MatchGroup.{mapped_in, names, group_specs}
use Rattle.gixp_matching.specs.Places.{place_value, made_of}
use Rattle.gixp_matching.proofs.match_group.made.mappings_at.Given as goal

abbrev pub invariant-places : goal.invariant-places
invariant-places l = mapped_in l.made ≡ made_of (group_specs l.group) (names l.items) (take l.place-index (map place_value l.places))
