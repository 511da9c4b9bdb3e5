use Rattle.gixp_shallow.proofs.TextLemmas.{line_found, line_last}
use Rattle.gixp_shallow.proofs.text.first_line.Goals as goal

pub returns-in-Some-clause-lines : goal.returns-in-Some-clause-lines
returns-in-Some-clause-lines c = line_found _ _ c.requires c.in-Some.ensures

pub returns-in-None-clause-lines : goal.returns-in-None-clause-lines
returns-in-None-clause-lines c = line_last _ c.requires c.in-None.ensures
