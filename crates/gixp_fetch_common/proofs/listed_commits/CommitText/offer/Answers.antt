-- What the server has is shared.
use Rattle.std.proofs.Common.{◌∷◌, [], sym, subst}
use Rattle.gixp_fetch_common.specs.SharedCommits.{IsSharedBut}
use Rattle.gixp_fetch_common.proofs.listed_commits.CommitText.offer.Goals as goal

pub returns-in-Ok-clause-whole : goal.returns-in-Ok-clause-whole
returns-in-Ok-clause-whole g c w =
    c.in-Ok.ensures.all.whole (subst (λ r. IsSharedBut r c.forget.new.self.common (c.args.id.now ∷ [])) (sym c.forget.ensures.read)
    (subst (λ s. IsSharedBut c.args.self.now.known.read s (c.args.id.now ∷ [])) (sym c.forget.ensures.common) w))
