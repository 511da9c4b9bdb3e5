-- How much is left to do in a negotiation. The loops end since it falls.
use Rattle.std.specs.Prelude.{ℕ, ◌+◌, List, length}
use Rattle.std.specs.BinaryHeap.{heap_len}
use Rattle.gixp_hash.specs.declared.object_id.ObjectId.{ObjectId}
use Rattle.gixp_graph.specs.GraphData.{GraphData}
use Rattle.gixp_negotiators.specs.declared.queue.Queue.{Queue}
use Rattle.gixp_negotiators.specs.Marks.{COMMON, SEEN, left}

-- the commits to take: the queued ones, and all that weren't seen
abbrev pub to_take : Queue → GraphData → ℕ
to_take queue g = left SEEN g + heap_len queue.waiting

-- the commits to mark as common: those that aren't common, and those that are due
abbrev pub to_mark : List ObjectId → GraphData → ℕ
to_mark due g = left COMMON g + length due
