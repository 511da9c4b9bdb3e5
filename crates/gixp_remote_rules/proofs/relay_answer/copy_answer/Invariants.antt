-- The lines so far.
use Rattle.gixp_remote_rules.proofs.RelayLemmas.{Copying}
use Rattle.gixp_remote_rules.proofs.relay_answer.copy_answer.Given as goal

abbrev pub invariant-lines : goal.invariant-lines
invariant-lines g l =
    Copying (g.R.Read.remaining l.fn.from) (g.R.Read.remaining l.from) (g.W.Write.contents l.fn.to) (g.W.Write.contents l.to)
