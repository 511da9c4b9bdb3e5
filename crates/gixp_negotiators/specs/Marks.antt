-- The marks of a commit (`Flags`) that a negotiator reads and adds.
use Rattle.std.specs.Prelude.{◌==◌, ℕ, Bool, false, not, bit_and}
use Rattle.std.specs.Option.{option_map_or}
use Rattle.std.specs.FinMap as finite
use Rattle.gixp_hash.specs.declared.object_id.ObjectId.{ObjectId}
use Rattle.gixp_graph.specs.GraphData.{HeldCommit, Commits, GraphData}
use Rattle.gixp_graph.specs.Walk.{count}

-- the marks of a commit (`Flags`): the server has it; the server has it as a ref; a negotiator has seen it; a
-- negotiator has taken it from its queue
abbrev pub COMMON : ℕ
COMMON = 2

abbrev pub COMMON_REF : ℕ
COMMON_REF = 4

abbrev pub SEEN : ℕ
SEEN = 8

abbrev pub POPPED : ℕ
POPPED = 16

-- whether a set of marks has all of these
abbrev pub has_all : ℕ → ℕ → Bool
has_all marks flags = bit_and flags marks == marks

-- whether a commit is held and has these marks
abbrev pub has_mark : ℕ → Commits → ObjectId → Bool
has_mark marks m id = option_map_or (λ (h : HeldCommit). has_all marks h.flags.0) (finite.get m id) false

-- how many objects aren't held commits with these marks
unfoldable pub left : ℕ → GraphData → ℕ
left marks g = count (λ q. not (has_mark marks g.held q)) (finite.keys g.objects)
