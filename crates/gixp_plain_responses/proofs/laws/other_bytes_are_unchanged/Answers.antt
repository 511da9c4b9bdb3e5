use Rattle.gixp_plain_responses.proofs.FrameLemmas.{rest_is_same}
use Rattle.gixp_plain_responses.proofs.laws.other_bytes_are_unchanged.Goals as goal

pub returns : goal.returns
returns c = rest_is_same
