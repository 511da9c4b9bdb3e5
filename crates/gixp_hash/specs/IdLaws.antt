-- The order of ids, for maps and sets of them.
use Rattle.std.proofs.Common.{ap}
use Rattle.std.specs.Cmp.{IsTotalOrder, on_total}
use Rattle.std.specs.Cmp.Lexicographic.{nat_list_cmp_total}
use Rattle.std.proofs.lemmas.Map.Lookups.{CmpEqualImpliesEq, exact_bytes}
use Rattle.gixp_hash.specs.ObjectId.{id_cmp}

-- ids that compare equal are equal
pub ids_exact : CmpEqualImpliesEq id_cmp
ids_exact a b h = ap (λ bytes. record { bytes = bytes }) (exact_bytes a.bytes b.bytes h)

pub ids_total : IsTotalOrder id_cmp
ids_total = on_total (λ d. d.bytes) nat_list_cmp_total
