use Rattle.std.proofs.Common.{◌≡◌, ◌-◌, ◌+◌}
use Rattle.gixp_graph.specs.Slots.{place_of, place_from}
use Rattle.gixp_graph.proofs.numbers.place.Given as goal

-- the slot that fits is among those left
abbrev pub invariant-loop-offset : goal.invariant-loop-offset
invariant-loop-offset l = place_of l.slots l.mask l.tag ≡ place_from l.slots l.tag (l.start + l.offset) (16 - l.offset)
