-- Whether two lists of ids are equal.
use Rattle.std.proofs.Common.{◌≡◌, Bool, List, nat_eq, ap, refl}
use Rattle.std.specs.Bool.{Decides}
use Rattle.std.specs.Cmp.Lexicographic.{pointwise}
use Rattle.std.proofs.lemmas.Bool.Decides.{Decides-eqb}
use Rattle.std.proofs.lemmas.Slice.Eq.{slice_eq-Decides}
use Rattle.gixp_hash.specs.declared.object_id.ObjectId.{ObjectId}

same_id : (a b : ObjectId) → Decides (pointwise nat_eq a.bytes b.bytes) (a ≡ b)
same_id a b =
    let reports = slice_eq-Decides Decides-eqb a.bytes b.bytes (pointwise nat_eq a.bytes b.bytes) refl in
    ((λ t. ap (λ bytes. record { bytes = bytes }) (reports.0 t)), (λ e. reports.1 (ap (λ (i : ObjectId). i.bytes) e)))

pub same_ids : (xs ys : List ObjectId) (r : Bool) → r ≡ pointwise (λ (a b : ObjectId). pointwise nat_eq a.bytes b.bytes) xs ys
    → Decides r (xs ≡ ys)
same_ids = slice_eq-Decides same_id
