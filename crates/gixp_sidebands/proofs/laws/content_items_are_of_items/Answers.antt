use Rattle.gixp_sidebands.proofs.BandItemLemmas.{content_without_texts}
use Rattle.gixp_sidebands.proofs.laws.content_items_are_of_items.Goals as goal

pub returns : goal.returns
returns c = λ v ps. content_without_texts v ps.list ps.end
