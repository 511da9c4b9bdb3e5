use Rattle.std.proofs.Common.{◌≡◌, take}
use Rattle.std.specs.List.{flat_map}
use Rattle.gixp_planner.specs.Text.{mapping_shown}
use Rattle.gixp_planner.proofs.printed.text_of.Given as goal

-- the text of the mappings so far
abbrev pub invariant-loop-mapping : goal.invariant-loop-mapping
invariant-loop-mapping l = l.text.items ≡ flat_map mapping_shown (take l.mapping-index l.mappings)
