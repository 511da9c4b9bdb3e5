use Rattle.std.proofs.Common.{sym, ap, ◌∙◌}
use Rattle.std.proofs.lemmas.Result.{err_from_is_err_and}
use Rattle.gixp_packetline.specs.Reading.{refusal_of}
use Rattle.gixp_refs.specs.V1Line.{so_far_value, with_text}
use Rattle.gixp_refs.specs.V1Refs.{symref_values}
use Rattle.gixp_refs.proofs.AdvertisementLemmas.{v1-start, v1-line, v1-refused, v1-reader, v1-finish}
use Rattle.gixp_packetline.proofs.ReadingLemmas.{at_stop-keeps, fails-keep}
use Rattle.gixp_refs.proofs.handshake.refs.advertisement.read_v1.Goals as goal

pub loop-found-init : goal.loop-found-init
loop-found-init g c = v1-start _ _ _ c.new-found.ensures

pub returns-in-Ok-false-clause-answers : goal.returns-in-Ok-false-clause-answers
returns-in-Ok-false-clause-answers g c =
    let k = rw c.in-Ok-false.field-0-test at c.in-Ok-false.ensures.reads in
    v1-finish c.finish.result (λ found. found.0.items) (λ found. found.1.items) _ _ _ _ _ _ c.loop-found.invariant k c.finish.ensures

pub returns-in-Err-clause-answers : goal.returns-in-Err-clause-answers
returns-in-Err-clause-answers g c =
    v1-reader _ _ _ _ _ _ c.in-Err.e _ c.loop-found.invariant c.in-Err.ensures.reads c.in-Err.ensures.plain c.from.ensures

pub loop-found-preserved : goal.loop-found-preserved
loop-found-preserved g c =
    let k = rw c.in-Ok-true.field-0-test at c.in-Ok-true.ensures.reads in
    v1-line _ _ _ _ (so_far_value c.loop-found.found) _ _ c.loop-found.invariant k
    (ap (with_text (symref_values c.args.targets.now.entries) (so_far_value c.loop-found.found)) (sym c.line.ensures)) c.in_ok-add.ensures

pub returns-in_err-add-clause-answers : goal.returns-in_err-add-clause-answers
returns-in_err-add-clause-answers g c =
    let k = rw c.in-Ok-true.field-0-test at c.in-Ok-true.ensures.reads in
    let p = err_from_is_err_and c.from_residual.result c.from_residual.ensures.1 in
    rw (p.1, p.2) (v1-refused _ _ _ _ _ (so_far_value c.loop-found.found) _ _ _ c.loop-found.invariant k
    (ap (with_text (symref_values c.args.targets.now.entries) (so_far_value c.loop-found.found)) (sym c.line.ensures)) c.in_err-add.ensures)

pub returns-in-Ok-false-clause-held : goal.returns-in-Ok-false-clause-held
returns-in-Ok-false-clause-held g c =
    let k = rw c.in-Ok-false.field-0-test at c.in-Ok-false.ensures.reads in
    (at_stop-keeps _ _ k).held ∙ c.loop-found.invariant.read.held

pub returns-in-Ok-false-clause-version : goal.returns-in-Ok-false-clause-version
returns-in-Ok-false-clause-version g c =
    let k = rw c.in-Ok-false.field-0-test at c.in-Ok-false.ensures.reads in
    (at_stop-keeps _ _ k).version ∙ c.loop-found.invariant.read.version

pub returns-in-Err-clause-held : goal.returns-in-Err-clause-held
returns-in-Err-clause-held g c = (fails-keep _ _ (refusal_of c.in-Err.e) c.in-Err.ensures.reads).held ∙ c.loop-found.invariant.read.held

pub returns-in-Err-clause-version : goal.returns-in-Err-clause-version
returns-in-Err-clause-version g c = (fails-keep _ _ (refusal_of c.in-Err.e) c.in-Err.ensures.reads).version
    ∙ c.loop-found.invariant.read.version

pub returns-in_err-add-clause-held : goal.returns-in_err-add-clause-held
returns-in_err-add-clause-held g c =
    let k = rw c.in-Ok-true.field-0-test at c.in-Ok-true.ensures.reads in
    k.held ∙ c.loop-found.invariant.read.held

pub returns-in_err-add-clause-version : goal.returns-in_err-add-clause-version
returns-in_err-add-clause-version g c =
    let k = rw c.in-Ok-true.field-0-test at c.in-Ok-true.ensures.reads in
    k.version ∙ c.loop-found.invariant.read.version
