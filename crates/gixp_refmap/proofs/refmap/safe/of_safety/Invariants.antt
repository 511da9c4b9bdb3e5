use Rattle.std.proofs.Common.{◌≡◌, take}
use Rattle.std.specs.Prelude.{filter}
use Rattle.gixp_refmap.specs.SafeNames.{is_of_safety, pointed_to}
use Rattle.gixp_refmap.proofs.refmap.safe.of_safety.Given as goal

abbrev pub invariant-mappings : goal.invariant-mappings
invariant-mappings l = pointed_to l.found.items ≡ filter (is_of_safety l.is_safe) (take l.mapping-index l.mappings)
