-- A sort moves each repeat next to the key that it repeats.
use Rattle.std.proofs.Common.{◌∙◌, ap, true}
use Rattle.gixp_utils.specs.Repeats.{marked, tested_from}
use Rattle.gixp_utils.proofs.RepeatLemmas.{marked_after_sort}
use Rattle.gixp_utils.proofs.flags.first_flags.Goals as goal

pub returns : goal.returns
returns g c =
    c.mark.ensures
    ∙ ap (marked g.K.Ord.cmp c.in_ok-flags.flags.items) c.deref-2.ensures.value
    ∙ ap (λ flags. marked g.K.Ord.cmp flags c.sort_unstable.new.self.items)
    (c.in_ok-flags.ensures ∙ ap (tested_from (λ p. true) 0) c.deref.ensures.value)
    ∙ marked_after_sort g.met.K.Ord.total c.args.rows.items c.args.rows.items c.sort_unstable.new.self.items
    c.sort_unstable.ensures.permutation c.sort_unstable.ensures.sorted c.requires
