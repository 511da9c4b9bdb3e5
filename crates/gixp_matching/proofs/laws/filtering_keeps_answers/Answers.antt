use Rattle.gixp_matching.proofs.SameValidationLemmas.{keeps_answers}
use Rattle.gixp_matching.proofs.laws.filtering_keeps_answers.Goals as goal

pub returns : goal.returns
returns c = keeps_answers
