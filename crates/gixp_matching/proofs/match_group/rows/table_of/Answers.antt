use Rattle.std.proofs.Common.{map, ap, ◌∙◌}
use Rattle.bstr.specs.Owned.{bstring_bytes}
use Rattle.gixp_matching.specs.MatchGroup.{names}
use Rattle.gixp_matching.specs.Sought.{has_name, is_among}
use Rattle.gixp_matching.proofs.RowLemmas.{table_is}
use Rattle.gixp_matching.proofs.match_group.rows.table_of.Goals as goal

pub returns : goal.returns
returns c =
    table_is _ (names c.args.items.now) (has_name c.in_ok-set.set) c.in_ok-rows.rows.items c.sort_by_name.new.rows.items
    c.in_ok-rows.ensures
    (λ text. c.in_ok-set.ensures.names text ∙ ap (λ texts. is_among texts text)
    (ap (map bstring_bytes) c.deref.ensures.value ∙ c.in_ok-looked_up.ensures))
    c.in_ok-sort_by_name.ensures.order c.in_ok-sort_by_name.ensures.same
