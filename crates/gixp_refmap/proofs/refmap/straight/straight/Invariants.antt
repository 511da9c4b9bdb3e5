-- The mappings of the refs that were taken, the last one first, and the refs that are left.
use Rattle.std.proofs.Common.{◌≡◌, ◌++◌, List, length, map, reverse}
use Rattle.std.specs.List.{AllZip, flat_map, enumerate_from}
use Rattle.gixp_refs.specs.declared.handshake.Ref.{Ref}
use Rattle.gixp_refs.specs.Ref.{ref_value}
use Rattle.gixp_refspec.specs.Spec.{Spec}
use Rattle.gixp_matching.specs.Single.{IsSingle, single_pair}
use Rattle.gixp_refmap.specs.Mapping.{value_names}
use Rattle.gixp_refmap.specs.Made.{IsUnplaced}
use Rattle.gixp_refmap.proofs.refmap.straight.straight.Given as goal

abbrev pub invariant-refs : goal.invariant-refs
invariant-refs l = record {
  gone : List Ref;
  made : (specs : List Spec) → IsSingle specs l.single → AllZip (IsUnplaced (map ref_value l.fn.refs.items))
      (flat_map (single_pair specs l.single) (enumerate_from (length l.refs.items) (value_names (map ref_value gone))))
      (reverse l.made.items);
  refs : l.fn.refs.items ≡ l.refs.items ++ gone;
}

abbrev pub decreases-refs : goal.decreases-refs
decreases-refs l = length l.refs.items
