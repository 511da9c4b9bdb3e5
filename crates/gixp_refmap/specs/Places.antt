-- The order of the indices of refspecs.
use Rattle.std.specs.declared.cmp.Ordering.{Ordering}
use Rattle.std.specs.declared.cmp.Ordering.TheVariants.{Less, Greater}
use Rattle.std.specs.Ordering.{nat_cmp}
use Rattle.gixp_refmap.specs.declared.refmap.mapping.SpecIndex.{SpecIndex}
use Rattle.gixp_refmap.specs.declared.refmap.mapping.SpecIndex.TheVariants.{ExplicitInRemote, Implicit}

-- explicit refspecs before the others, and each kind by number
abbrev pub place_cmp : SpecIndex → SpecIndex → Ordering
place_cmp (ExplicitInRemote i) (ExplicitInRemote j) = nat_cmp i j
place_cmp (ExplicitInRemote i) (Implicit j) = Less
place_cmp (Implicit i) (ExplicitInRemote j) = Greater
place_cmp (Implicit i) (Implicit j) = nat_cmp i j
