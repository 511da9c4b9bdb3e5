-- The rows between the two partition points have the name.
use Rattle.std.proofs.Common.{◌≡◌, ◌∙◌, ◌≤◌, ◌-◌, true, false, length, take, drop, ap, sym, subst, rules}
use Rattle.std.specs.Prelude.{not}
use Rattle.std.specs.List.Sorted.{IsPartitionedBy, IsPartitionPoint}
use Rattle.std.proofs.lemmas.List.{take_rest}
use Rattle.std.proofs.lemmas.List.Sorted.{IsPartitionPoint-from_clause}
use Rattle.gixp_matching.specs.declared.match_group.rows.Row.{Row}
use Rattle.gixp_matching.specs.Validation.{is_below}
use Rattle.gixp_matching.proofs.RowLemmas.{parted_before, parted_until, rest_in_order, rows_between}
use Rattle.gixp_matching.proofs.match_group.rows.rows_named.Goals as goal

pub returns : goal.returns
returns c =
    let rows = c.args.rows.now in
    let name = c.args.name.now in
    let i = c.partition_point-start.result in
    let n = c.partition_point-count.result in
    let is : take (length rows - i) (drop i rows) ≡ drop i rows = take_rest rows i in
    let start =
    IsPartitionPoint-from_clause (λ (row : Row). is_below row.name.now name) rows i c.partition_point-start.ensures.partitioned
    (parted_before name rows c.requires) (λ a r q k. search rules) in
    let up = rest_in_order name rows i c.requires c.partition_point-start.ensures.bound start in
    let parted = subst (IsPartitionedBy (λ (row : Row). not (is_below name row.name.now))) (sym is) (parted_until name (drop i rows) up) in
    let count = IsPartitionPoint-from_clause (λ (row : Row). not
    (is_below name row.name.now)) _ n c.partition_point-count.ensures.partitioned parted (λ a r q k. search rules) in
    ap (take n) is
    ∙ rows_between name rows i n c.partition_point-start.ensures.bound
    (subst (λ l. n ≤ length l) is c.partition_point-count.ensures.bound) start
    (subst (λ l. IsPartitionPoint (λ (row : Row). not (is_below name row.name.now) ≡ true)
    (λ row. not (is_below name row.name.now) ≡ false) l n) is count)
