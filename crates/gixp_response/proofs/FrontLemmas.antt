-- The order of ids that mostly compares their first bytes.
use Rattle.std.proofs.Common.{◌≡◌, true, Ordering, Less, Equal, Greater, refl, sym, ap, ◌∙◌}
use Rattle.std.specs.Cmp.{IsTotalOrder}
use Rattle.std.specs.Ordering.{is_eq, eq_by_cmp, nat_cmp, ordering_then}
use Rattle.std.proofs.lemmas.Bool.{false≢true}
use Rattle.std.proofs.lemmas.Cmp.{nat_cmp_total, on_total, then_total, tied_itself}
use Rattle.std.proofs.lemmas.Map.Text.{is_eq-slice_cmp}
use Rattle.std.proofs.lemmas.Slice.Eq.{bytes_eq-Decides}
use Rattle.gixp_hash.specs.declared.object_id.ObjectId.{ObjectId}
use Rattle.gixp_hash.specs.ObjectId.{id_cmp}
use Rattle.gixp_response.specs.RepeatedCommons.{front_of, front_cmp, row_cmp}
use Rattle.gixp_hash.specs.IdLaws.{ids_total}
use Rattle.gixp_utils.proofs.RepeatLemmas.{place_total}

pub fronts_total : IsTotalOrder front_cmp
fronts_total = then_total (on_total (λ id. front_of id.bytes) nat_cmp_total) ids_total

pub rows_total : IsTotalOrder row_cmp
rows_total = place_total fronts_total

then_equal : (x y : Ordering) → (is_eq y ≡ true → is_eq x ≡ true) → is_eq (ordering_then x y) ≡ is_eq y
then_equal Less Less h = refl
then_equal Less Equal h = absurd (false≢true (h refl))
then_equal Less Greater h = refl
then_equal Equal y h = refl
then_equal Greater Less h = refl
then_equal Greater Equal h = absurd (false≢true (h refl))
then_equal Greater Greater h = refl

-- equal ids have equal first bytes
pub fronts_tie : (a b : ObjectId) → eq_by_cmp front_cmp a b ≡ eq_by_cmp id_cmp a b
fronts_tie a b = then_equal _ (id_cmp a b) (λ e.
    let same = (bytes_eq-Decides a.bytes b.bytes).0 (sym (is_eq-slice_cmp a.bytes b.bytes) ∙ e) in
    ap (λ bytes. is_eq (nat_cmp (front_of a.bytes) (front_of bytes))) (sym same)
    ∙ ap is_eq (tied_itself nat_cmp_total (front_of a.bytes)))
