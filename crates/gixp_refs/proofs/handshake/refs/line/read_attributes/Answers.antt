use Rattle.std.proofs.lemmas.Result.{err_from_is_err_and}
use Rattle.gixp_refs.proofs.AnswerLemmas.{attributes-err, attributes-two}
use Rattle.gixp_refs.proofs.handshake.refs.line.read_attributes.Goals as goal

pub returns-in_err-first : goal.returns-in_err-first
returns-in_err-first c = let p = err_from_is_err_and c.from_residual.result c.from_residual.ensures.1 in rw (p.1, p.2, c.in-Some.is)
    (attributes-err c.args.line.now c.in-Some.rest.now _ _ c.in_err-first.field-0.0 c.cut.ensures c.in_err-first.ensures)

pub returns-in-Some-fourth : goal.returns-in-Some-fourth
returns-in-Some-fourth c =
    let whole = rw c.in-Some-fourth.is at c.cut.ensures in
    rw c.in-Some.is (attributes-two c.args.line.now c.in-Some.rest.now _ _ c.in_ok-first.first _ whole c.in_ok-first.ensures
    c.read_attribute-in-Some-fourth.ensures)
