use Rattle.std.proofs.lemmas.Result.{err_from_is_err_and}
use Rattle.gixp_negotiate.proofs.RoundLemmas.{names_front}
use Rattle.gixp_negotiate.proofs.negotiate.one_round.name_each.Goals as goal

pub returns-in_err-have-clause-err : goal.returns-in_err-have-clause-err
returns-in_err-have-clause-err c = let p = err_from_is_err_and c.from_residual.result c.from_residual.ensures.1 in
    rw p.1 (names_front c.args.ids.now c.loop-id.id-index c.args.arguments.now c.loop-id.arguments c.have.new.self c.loop-id.invariant
    c.in_err-have.ensures)
