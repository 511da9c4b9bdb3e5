use Rattle.std.proofs.Common.{◌≡◌, ◌∙◌, [], false, codes, map, take, get_or, append-nil, refl, ap, sym, arith, rules}
use Rattle.std.proofs.lemmas.List.{map-append}
use Rattle.std.proofs.lemmas.Grind.{common_steps}
use Rattle.gixp_refspec.specs.PartialName.{name_bytes}
use Rattle.gixp_fetch_cli.specs.OptionNames.{values_in}
use Rattle.gixp_fetch_cli.specs.CommandLine.{setting_value}
use Rattle.gixp_refspec.specs.Name.{is_partial_name}
use Rattle.gixp_fetch_cli.specs.declared.command_line.Setting.{Setting}
use Rattle.gixp_fetch_cli.specs.Refusals.{HasBadValue}
use Rattle.gixp_fetch_cli.proofs.LineLemmas.{values_more}
use Rattle.gixp_fetch_cli.proofs.OptionLemmas.{setting_at}
use Rattle.gixp_fetch_cli.proofs.history.excluded.Goals as goal
use Rattle.gixp_fetch_cli.proofs.history.excluded.Goals.{then-eq+in_ok-from_slice+in-Ok+in_ok-push-in-Ok, else-eq}

pub loop-setting-preserved : goal.loop-setting-preserved
loop-setting-preserved c =
    let more = values_more c.deref-setting-items.result.now c.loop-setting.setting-index
    (record { name = record { ref_ptr = (0, 0); now = [] }; value = record { ref_ptr = (0, 0); now = [] } })
    (codes "--exclude") c.loop-setting-test.true in
    let kept : map name_bytes c.loop-setting.names.items
    ≡ values_in (map setting_value (take c.loop-setting.setting-index c.deref-setting-items.result.now)) (codes "--exclude") =
    rw c.deref-setting-items.ensures.value c.loop-setting.invariant in
    rw (← c.deref-setting-items.ensures.value, more) (elim c.if-eq.branch [
      | then-eq+in_ok-from_slice+in-Ok+in_ok-push-in-Ok w ↦
          let same = w.in-Ok.ensures.1 ∙ w.in_ok-from_slice.ensures ∙ w.as_bytes.ensures.value in
          rw (w.names-is, ← w.if-eq.ensures, w.in_ok-push-in-Ok.ensures.items, map-append)
          (first_of (cc (kept, same), rw (kept, same), grind (arith, common_steps, kept, same)))
      | else-eq w ↦ rw (w.names-is, ← w.if-eq.ensures, append-nil) kept
    ])

pub returns-in-Err-clause-err : goal.returns-in-Err-clause-err
returns-in-Err-clause-err c =
    let d : Setting = record { name = record { ref_ptr = (0, 0); now = [] }; value = record { ref_ptr = (0, 0); now = [] } } in
    let named : (get_or c.deref-setting-items.result.now c.loop-setting.setting-index d).name.now ≡ codes "--exclude" = search rules in
    let bad : is_partial_name (get_or c.deref-setting-items.result.now c.loop-setting.setting-index d).value.now ≡ false =
    sym (ap is_partial_name (c.in_ok-from_slice.ensures ∙ c.as_bytes.ensures.value)) ∙ c.in-Err.ensures.0 in
    HasBadValue.bad_name refl c.loop-setting.setting-index
    (rw (← c.deref-setting-items.ensures.value) (setting_at c.deref-setting-items.result.now c.loop-setting.setting-index d
    (codes "--exclude") c.loop-setting-test.true named)) bad
