use Rattle.gixp_sidebands.proofs.BandItemLemmas.{content_lines}
use Rattle.gixp_sidebands.proofs.laws.content_lines_are_of_items.Goals as goal

pub returns : goal.returns
returns c = λ v ps. content_lines v ps.list ps.end
