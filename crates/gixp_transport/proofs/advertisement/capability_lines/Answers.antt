use Rattle.std.proofs.Common.{[], refl, ◌∙◌}
use Rattle.gixp_transport.proofs.AdvertisementLemmas.{gathers-none, gathers-line, reads-lines, fails-lines, fails-memory, capabilities-push}
use Rattle.gixp_transport.proofs.advertisement.capability_lines.Goals as goal

pub loop-capabilities-init : goal.loop-capabilities-init
loop-capabilities-init g c = ([], gathers-none _ c.requires.running c.requires.version, c.empty-capabilities.ensures)

pub returns-in-Ok-false : goal.returns-in-Ok-false
returns-in-Ok-false g c =
    let k = rw c.in-Ok-false.field-0-test at c.in-Ok-false.ensures.reads in
    let h = c.loop-capabilities.invariant in
    reads-lines _ _ _ h.0 _ h.1 k (rw h.2 refl)

pub returns-in-Err : goal.returns-in-Err
returns-in-Err g c =
    let h = c.loop-capabilities.invariant in
    fails-lines _ _ _ h.0 _ _ h.1 c.in-Err.ensures.reads (c.in-Err.ensures.plain refl) c.from.ensures

pub returns-in-Err-push_line : goal.returns-in-Err-push_line
returns-in-Err-push_line g c =
    let k = rw c.in-Ok-true.field-0-test at c.in-Ok-true.ensures.reads in
    let h = c.loop-capabilities.invariant in
    fails-memory _ _ _ h.0 h.1 k

pub loop-capabilities-preserved : goal.loop-capabilities-preserved
loop-capabilities-preserved g c =
    let k = rw c.in-Ok-true.field-0-test at c.in-Ok-true.ensures.reads in
    let h = c.loop-capabilities.invariant in
    (_, gathers-line _ _ _ h.0 h.1 k, c.in-Ok.ensures.ok ∙ (rw (h.2, c.line.ensures) (capabilities-push h.0 _)))
