use Rattle.gixp_shallow.proofs.WishLemmas.{same_boundary}
use Rattle.gixp_shallow.proofs.same.is_same_boundary.Goals as goal

pub returns : goal.returns
returns c = same_boundary c.args.a.now c.args.b.now c.eq.result c.eq.ensures
