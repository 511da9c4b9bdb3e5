use Rattle.std.proofs.Common.{◌≡◌, ◌++◌, drop}
use Rattle.std.specs.List.{flat_map, enumerate_from}
use Rattle.gixp_updates.specs.Unmatched.{note_on, unmatched_of}
use Rattle.gixp_updates.proofs.refs.unmatched.unmatched.Given as goal

abbrev pub invariant-specs : goal.invariant-specs
invariant-specs l = l.notes.items ++ flat_map (note_on l.looked.refs.now)
    (enumerate_from l.index (drop l.index l.map.refspecs.items)) ≡ unmatched_of l.looked.refs.now l.map.refspecs.items
