use Rattle.gixp_plain_responses.proofs.FrameLemmas.{lines_are}
use Rattle.gixp_plain_responses.proofs.laws.packet_lines_are_detailed.Goals as goal

pub returns : goal.returns
returns c = λ bytes rest frames h. lines_are frames bytes rest h
