use Rattle.std.proofs.Common.{map}
use Rattle.gixp_matching.specs.MatchGroup.{name_of}
use Rattle.gixp_matching.specs.Rows.{shown}
use Rattle.gixp_matching.specs.Sought.{has_name}
use Rattle.gixp_matching.proofs.WalkLemmas.{listed}
use Rattle.gixp_matching.proofs.match_group.rows.rows_of.Goals as goal

pub items-preserved : goal.items-preserved
items-preserved c =
    listed name_of (λ ref. has_name c.args.set.now ref.1) _ (map shown c.items.rows.items)
    (map shown c.push_row.new.rows.items) c.args.items.now c.items.place _ c.items-test.true c.items.invariant
    c.in_ok-push_row.ensures
