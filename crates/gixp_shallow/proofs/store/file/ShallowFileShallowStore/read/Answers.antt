use Rattle.std.proofs.Common.{refl, sym, subst}
use Rattle.std.specs.List.Sorted.{IsStrictlySortedBy}
use Rattle.gixp_hash.specs.ObjectId.{id_cmp}
use Rattle.gixp_shallow.proofs.store.file.ShallowFileShallowStore.read.Goals as goal

pub returns-in-NotFound-clause-read : goal.returns-in-NotFound-clause-read
unfolding IsStrictlySortedBy
returns-in-NotFound-clause-read g c = (
  subst (IsStrictlySortedBy id_cmp) (sym c.new.ensures.items) tt,
  record { held = refl; kept = record { path = refl; lock_path = refl }; failures = refl },
)
