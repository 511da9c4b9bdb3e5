use Rattle.std.proofs.Common.{◌≡◌, ◌++◌, length}
use Rattle.std.specs.List.{filter_map}
use Rattle.gixp_client.specs.Doubted.{doubted_id}
use Rattle.gixp_client.proofs.doubt.doubted_ids.Given as goal

abbrev pub invariant-loop-mapping : goal.invariant-loop-mapping
invariant-loop-mapping g l =
    let one = doubted_id (g.F.Find.contents l.objects) (g.R.RefStore.refs l.refs) in
    l.ids.items ++ filter_map one l.rest ≡ filter_map one l.mappings

abbrev pub decreases-loop-mapping : goal.decreases-loop-mapping
decreases-loop-mapping g l = length l.rest
