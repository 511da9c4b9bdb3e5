-- The order of refs.
use Rattle.std.specs.Prelude.{ℕ, List}
use Rattle.std.specs.declared.cmp.Ordering.{Ordering}
use Rattle.std.specs.Ordering.{nat_cmp, ordering_then}
use Rattle.std.specs.Option.{option_cmp}
use Rattle.std.specs.Cmp.Lexicographic.{slice_cmp}
use Rattle.gixp_refs.specs.Ref.{RefValue, peeled, direct, symbolic, unborn}

abbrev pub bytes_cmp : List ℕ → List ℕ → Ordering
bytes_cmp a b = slice_cmp nat_cmp a b

-- the rank of the four kinds of refs
abbrev pub ref_place : RefValue → ℕ
ref_place (peeled name tag object) = 0
ref_place (direct name object) = 1
ref_place (symbolic name target tag object) = 2
ref_place (unborn name target) = 3

-- by kind, then by name, then by what the ref points to
abbrev pub ref_cmp : RefValue → RefValue → Ordering
ref_cmp (peeled a b c) (peeled x y z) = ordering_then (bytes_cmp a x) (ordering_then (bytes_cmp b y) (bytes_cmp c z))
ref_cmp (direct a b) (direct x y) = ordering_then (bytes_cmp a x) (bytes_cmp b y)
ref_cmp (symbolic a b c d) (symbolic w x y z) =
    ordering_then (bytes_cmp a w) (ordering_then (bytes_cmp b x) (ordering_then (option_cmp bytes_cmp c y) (bytes_cmp d z)))
ref_cmp (unborn a b) (unborn x y) = ordering_then (bytes_cmp a x) (bytes_cmp b y)
ref_cmp r s = nat_cmp (ref_place r) (ref_place s)
