use Rattle.gixp_packetline.proofs.ItemLemmas.{lines_of_items}
use Rattle.gixp_packetline.proofs.laws.lines_are_of_items.Goals as goal

pub returns : goal.returns
returns c = λ v ps. lines_of_items v ps.list ps.end
