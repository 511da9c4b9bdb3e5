use Rattle.std.proofs.Common.{◌∙◌}
use Rattle.std.proofs.lemmas.Result.{err_from_is_err_and}
use Rattle.gixp_refs.proofs.RefsLemmas.{refs-stop, next-refused, next-pushed, refs-memory}
use Rattle.gixp_refs.proofs.handshake.refs.from_v2_refs.Goals as goal

pub returns-clause-answers : goal.returns-clause-answers
returns-clause-answers g c =
    let k = rw c.in_default.is at c.in_ok-found.ensures.next in
    refs-stop _ _ _ c.loop-refs.refs.items c.loop-refs.invariant k

pub returns-in_err-found-clause-answers : goal.returns-in_err-found-clause-answers
returns-in_err-found-clause-answers g c = let p = err_from_is_err_and c.from_residual.result c.from_residual.ensures.1 in
    rw (p.1, p.2) (next-refused _ _ _ _ _ c.in_err-found.field-0.0 c.loop-refs.invariant c.in_err-found.ensures.next)

pub loop-refs-preserved : goal.loop-refs-preserved
loop-refs-preserved g c =
    let k = rw c.in-Some.is at c.in_ok-found.ensures.next in
    next-pushed g.R.ExtendedBufRead.is_plain _ _ _ _ _ c.in-Some.found c.loop-refs.invariant k c.in_ok-push.ensures.items

pub returns-in_err-push-clause-answers : goal.returns-in_err-push-clause-answers
returns-in_err-push-clause-answers g c =
    let k = rw c.in-Some.is at c.in_ok-found.ensures.next in
    let p = err_from_is_err_and c.from_residual-in_err-push.result c.from_residual-in_err-push.ensures.1 in
    rw (p.1, p.2) (refs-memory _ _ _ _ _ c.loop-refs.invariant k.0)

pub returns-clause-held : goal.returns-clause-held
returns-clause-held g c = c.in_ok-found.ensures.held ∙ c.loop-refs.invariant.read.held

pub returns-clause-version : goal.returns-clause-version
returns-clause-version g c = c.in_ok-found.ensures.version ∙ c.loop-refs.invariant.read.version

pub returns-in_err-found-clause-held : goal.returns-in_err-found-clause-held
returns-in_err-found-clause-held g c = c.in_err-found.ensures.held ∙ c.loop-refs.invariant.read.held

pub returns-in_err-found-clause-version : goal.returns-in_err-found-clause-version
returns-in_err-found-clause-version g c = c.in_err-found.ensures.version ∙ c.loop-refs.invariant.read.version

pub returns-in_err-push-clause-held : goal.returns-in_err-push-clause-held
returns-in_err-push-clause-held g c = c.in_ok-found.ensures.held ∙ c.loop-refs.invariant.read.held

pub returns-in_err-push-clause-version : goal.returns-in_err-push-clause-version
returns-in_err-push-clause-version g c = c.in_ok-found.ensures.version ∙ c.loop-refs.invariant.read.version
