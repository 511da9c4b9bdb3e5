use Rattle.gixp_remote_rules.proofs.RelayRunLemmas.{options_once}
use Rattle.gixp_remote_rules.proofs.laws.options_are_passed_on_once.Goals as goal

pub returns : goal.returns
returns c = λ t lines. options_once t lines
