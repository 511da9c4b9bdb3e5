use Rattle.std.proofs.Common.{◌≡◌, ◌++◌, drop, map, filter}
use Rattle.std.specs.List.{enumerate_from}
use Rattle.gixp_matching.specs.MatchGroup.{names}
use Rattle.gixp_matching.specs.Rows.{shown}
use Rattle.gixp_matching.specs.Sought.{has_name}
use Rattle.gixp_matching.proofs.match_group.rows.rows_of.Given as goal

abbrev pub invariant-items : goal.invariant-items
invariant-items l =
    map shown l.rows.items ++ filter (λ ref. has_name l.set ref.1) (enumerate_from l.place (drop l.place (names l.items)))
    ≡ filter (λ ref. has_name l.set ref.1) (enumerate_from 0 (names l.items))
