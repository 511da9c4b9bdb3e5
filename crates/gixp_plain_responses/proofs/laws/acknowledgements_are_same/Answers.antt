use Rattle.gixp_plain_responses.proofs.AcknowledgementLemmas.{ids_are_same, are_detailed}
use Rattle.gixp_plain_responses.proofs.laws.acknowledgements_are_same.Goals as goal

pub returns : goal.returns
returns c = record { same = ids_are_same; detailed = are_detailed }
