use Rattle.gixp_fetch.proofs.LastLemmas.{but_last_more, but_last_length}
use Rattle.gixp_fetch.proofs.laws.all_but_the_last_are_counted.Goals as goal

pub returns : goal.returns
returns c = record { first = λ rounds last. but_last_more rounds last; one_less = λ first rounds. but_last_length first rounds }
