use Rattle.std.proofs.Common.{◌≡◌, ◌++◌, map}
use Rattle.std.specs.List.{flat_map}
use Rattle.gixp_client.specs.Changes.{change_values, listed_value, removals_of}
use Rattle.gixp_client.proofs.changes.add_removals.Given as goal

abbrev pub invariant-refs : goal.invariant-refs
invariant-refs l = change_values l.changes.items ≡ change_values l.initial.changes.items
    ++ flat_map (removals_of l.found.refspecs.items l.found.mappings.items) (map listed_value l.yielded)
