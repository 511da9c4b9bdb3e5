use Rattle.std.proofs.Common.{◌≡◌, take, map}
use Rattle.gixp_refs.specs.Ref.{ref_value}
use Rattle.gixp_refmap.proofs.refmap.map.copied_refs.Given as goal

abbrev pub invariant-refs : goal.invariant-refs
invariant-refs l = map ref_value l.copy.items ≡ take l.found-index (map ref_value l.refs.items)
