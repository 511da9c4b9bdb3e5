use Rattle.std.proofs.Common.{ap, map}
use Rattle.std.proofs.lemmas.Result.{err_from_is_err_and}
use Rattle.bstr.specs.Owned.{bstring_bytes}
use Rattle.gixp_planner.proofs.ListLemmas.{left-at, refused-so-far}
use Rattle.gixp_planner.proofs.refspecs.read_specs.Goals as goal

pub returns-in_err-spec : goal.returns-in_err-spec
returns-in_err-spec c = let p = err_from_is_err_and c.from_residual.result c.from_residual.ensures.1 in
    rw (p.1, p.2) (refused-so-far _ _ _ _ _ c.in_err-spec.field-0.0 c.loop-text.invariant (ap (map bstring_bytes)
    (left-at c.args.texts.now c.loop-text.text-index c.text-item.result c.loop-text-test.true c.text-item.is)) c.in_err-spec.ensures)
