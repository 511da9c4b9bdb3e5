use Rattle.gixp_sidebands.proofs.BandItemLemmas.{messages_items}
use Rattle.gixp_sidebands.proofs.laws.messages_are_of_items.Goals as goal

pub returns : goal.returns
returns c = λ v ps. messages_items v ps.list ps.end
