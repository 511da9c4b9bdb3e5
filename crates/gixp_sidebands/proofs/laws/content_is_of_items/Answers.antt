use Rattle.gixp_sidebands.proofs.BandItemLemmas.{content_items}
use Rattle.gixp_sidebands.proofs.laws.content_is_of_items.Goals as goal

pub returns : goal.returns
returns c = λ v ps. content_items v ps.list ps.end
