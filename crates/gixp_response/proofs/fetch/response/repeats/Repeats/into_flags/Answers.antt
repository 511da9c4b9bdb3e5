-- A sort moves each repeat next to the row that it repeats.
use Rattle.std.proofs.Common.{◌∙◌, ap, subst, List, IsPermutation, ℕ}
use Rattle.gixp_hash.specs.declared.object_id.ObjectId.{ObjectId}
use Rattle.gixp_hash.specs.ObjectId.{id_cmp}
use Rattle.gixp_utils.specs.Repeats.{marked}
use Rattle.gixp_response.proofs.CommonLemmas.{named_apart}
use Rattle.gixp_response.proofs.FrontLemmas.{fronts_tie, fronts_total}
use Rattle.gixp_utils.proofs.RepeatLemmas.{marked_alike_after_sort}
use Rattle.gixp_response.proofs.fetch.response.repeats.Repeats.into_flags.Goals as goal

pub returns : goal.returns
returns c had h =
    let moved = subst (λ (rows : List (ObjectId × ℕ)). IsPermutation rows c.put_in_order.new.rows.items)
    h.rows c.put_in_order.ensures.permutation in
    c.mark.ensures
    ∙ ap (λ rows. marked id_cmp c.args.self.flags.items rows) c.deref.ensures.value
    ∙ ap (λ flags. marked id_cmp flags c.put_in_order.new.rows.items) h.flags
    ∙ marked_alike_after_sort fronts_total id_cmp fronts_tie had _ _ moved c.put_in_order.ensures.sorted (named_apart 0 had)
