use Rattle.std.proofs.Common.{◌≡◌, ◌++◌, take, drop, map}
use Rattle.gixp_refmap.specs.Made.{in_its_list}
use Rattle.gixp_refmap.proofs.refmap.make.put_in_lists.Given as goal

abbrev pub invariant-mappings : goal.invariant-mappings
invariant-mappings l =
    let all = l.fn.mappings.items in
    l.mapping-items ≡ map (in_its_list l.explicit) (take l.mapping-index all) ++ drop l.mapping-index all
