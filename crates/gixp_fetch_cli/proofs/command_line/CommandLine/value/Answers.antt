use Rattle.std.proofs.Common.{[], refl}
use Rattle.gixp_fetch_cli.proofs.LineLemmas.{value_more}
use Rattle.gixp_fetch_cli.proofs.command_line.CommandLine.value.Goals as goal
use Rattle.gixp_fetch_cli.proofs.command_line.CommandLine.value.Goals.{then-eq, else-eq}

pub loop-setting-preserved : goal.loop-setting-preserved
loop-setting-preserved c =
    let more = value_more c.deref-setting-items.result.now c.loop-setting.setting-index
    (record { name = record { ref_ptr = (0, 0); now = [] }; value = record { ref_ptr = (0, 0); now = [] } })
    c.args.name.now c.loop-setting-test.true in
    rw (← c.deref-setting-items.ensures.value, more) (elim c.if-eq.branch [
      | then-eq w ↦ rw (w.found-is, ← w.if-eq.ensures) refl
      | else-eq w ↦ rw (w.found-is, ← w.if-eq.ensures, c.deref-setting-items.ensures.value) c.loop-setting.invariant
    ])
