use Rattle.std.proofs.lemmas.Result.{err_from_is_err_and}
use Rattle.gixp_shallow.proofs.TextLemmas.{unread, one_line}
use Rattle.gixp_shallow.proofs.text.line_ids.Goals as goal

pub returns-in_err-id-clause-refused : goal.returns-in_err-id-clause-refused
returns-in_err-id-clause-refused c =
    let i = c.loop-rest.invariant in let p = err_from_is_err_and c.from_residual.result c.from_residual.ensures.1 in
    rw (p.1, p.2) (unread c.args.text.now i.0 _ c.loop-rest.rest.now _ c.first_line.result.1.now _ i.1 i.2
    c.first_line.ensures.lines c.in_err-id.ensures)

pub loop-rest-preserved : goal.loop-rest-preserved
loop-rest-preserved c =
    let i =
    c.loop-rest.invariant in
    one_line c.args.text.now i.0 _ _ _ c.loop-rest.rest.now _ c.first_line.result.1.now i.1 i.2 c.first_line.ensures.lines
    c.in_ok-id.ensures c.in-Ok.ensures.items
