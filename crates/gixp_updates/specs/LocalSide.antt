-- The refs and objects of a repository, as plain data.
use Rattle.std.specs.Ordering.{nat_cmp}
use Rattle.std.specs.Cmp.Lexicographic.{slice_cmp}
use Rattle.std.specs.FinMap.{FinMap}
use Rattle.gixp_hash.specs.declared.object_id.ObjectId.{ObjectId}
use Rattle.gixp_graph.specs.Object.{Objects}
use Rattle.gixp_graph.specs.GraphData.{GraphData}
use Rattle.gixp_updates.specs.Modes.{LocalSide, is_among}
use Rattle.gixp_updates.specs.declared.refs.mode.Local.{Local}
use Rattle.gixp_updates.specs.declared.refs.update.Options.{Options}

-- the repository, by the meaning of its types
abbrev pub local_of : {R O : Type 0} → (R → FinMap (slice_cmp nat_cmp) ObjectId) → (O → Objects) → Local R O → GraphData → LocalSide
local_of refs contents l g = record {
  refs = refs l.refs.now;
  objects = contents l.objects.now;
  commits = g.objects;
  is_checked_out = is_among l.checked_out.now;
}

abbrev pub local_with : {R O : Type 0} → (R → FinMap (slice_cmp nat_cmp) ObjectId) → (O → Objects) → R → O → Options → GraphData → LocalSide
local_with refs contents r o options g =
    record { refs = refs r; objects = contents o; commits = g.objects; is_checked_out = is_among options.checked_out.now }
