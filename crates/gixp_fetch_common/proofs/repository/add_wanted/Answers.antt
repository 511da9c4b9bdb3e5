use Rattle.std.proofs.Common.{rules}
use Rattle.gixp_fetch_common.proofs.repository.add_wanted.Goals.{then-is_wanted+in_ok-insert, else-is_wanted}
use Rattle.gixp_fetch_common.proofs.repository.add_wanted.Goals as goal

pub returns : goal.returns
returns c =
    λ other. elim c.if-is_wanted.branch [
      | then-is_wanted+in_ok-insert w ↦ rw w.ids-is (rw w.if-is_wanted.true (search rules))
      | else-is_wanted w ↦ rw w.ids-is (rw w.if-is_wanted.false (search rules))
    ]
