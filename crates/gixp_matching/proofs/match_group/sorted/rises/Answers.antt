use Rattle.gixp_matching.proofs.RisingLemmas.{rises_more}
use Rattle.gixp_matching.proofs.match_group.sorted.rises.Goals as goal

pub returns : goal.returns
returns g c = λ t. rises_more g.met.K.Ord.total c.args.last.now c.args.key (c.is_above-is_next.ensures t)
