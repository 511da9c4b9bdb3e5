use Rattle.gixp_negotiators.proofs.FitLemmas.{counts_all}
use Rattle.gixp_negotiators.proofs.LookedLemmas.{looked_none}
use Rattle.gixp_negotiators.proofs.skipping.Skipping.pass.Goals as goal

pub returns-in_ok-raise-in-Skips-clause-fits : goal.returns-in_ok-raise-in-Skips-clause-fits
returns-in_ok-raise-in-Skips-clause-fits g c = rw (c.raise.ensures.queue, c.raise.ensures.uncommon) (counts_all _ _ _ _ _ _ _ (λ lost f. f))

pub returns-in_ok-raise-in-Skips-clause-marks : goal.returns-in_ok-raise-in-Skips-clause-marks
returns-in_ok-raise-in-Skips-clause-marks g c = record { sees = λ q m. m; lists = λ q m. m; pops = λ q m. m }

pub returns-in_ok-raise-in-Skips-clause-looks : goal.returns-in_ok-raise-in-Skips-clause-looks
returns-in_ok-raise-in-Skips-clause-looks g c = looked_none _
