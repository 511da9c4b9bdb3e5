use Rattle.gixp_plain_responses.proofs.FrameLemmas.{pack_is}
use Rattle.gixp_plain_responses.proofs.laws.packs_are_banded.Goals as goal

pub returns : goal.returns
returns c = pack_is
