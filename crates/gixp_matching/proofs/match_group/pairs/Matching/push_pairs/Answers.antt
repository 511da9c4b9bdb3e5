use Rattle.std.proofs.Common.{◌++◌, ◌∙◌, ap, sym, subst}
use Rattle.gixp_matching.specs.Places.{places_in, places_with}
use Rattle.gixp_refspec.specs.RefSpec.{value_of}
use Rattle.gixp_matching.specs.MatchGroup.{values, names}
use Rattle.gixp_matching.specs.Rows.{AreSought}
use Rattle.gixp_matching.specs.Sought.{sought_by, sought}
use Rattle.gixp_matching.proofs.SoughtLemmas.{sought_at}
use Rattle.gixp_matching.proofs.FollowLemmas.{pairs_placed}
use Rattle.gixp_matching.proofs.WalkLemmas.{walked_at}
use Rattle.gixp_matching.proofs.match_group.pairs.Matching.push_pairs.Goals as goal

pub specs-init : goal.specs-init
specs-init c =
    ap (λ l. places_in c.args.out.now ++ l)
    (pairs_placed (values c.args.self.now.prepared.now.specs.now) (names c.args.self.now.items.now))

pub specs-preserved : goal.specs-preserved
specs-preserved c =
    walked_at value_of (places_with (values c.args.self.now.prepared.now.specs.now) (names c.args.self.now.items.now)) _
    (places_in c.specs.out) (places_in c.push_looked_up.new.out)
    c.args.self.now.prepared.now.specs.now c.specs.index c.spec-item.result c.spec-item.is c.specs-test.true c.specs.invariant
    (c.in_ok-push_looked_up.ensures ∙ ap (λ s. places_in c.specs.out
    ++ places_with (values c.args.self.now.prepared.now.specs.now) (names c.args.self.now.items.now) s) c.new.ensures.value)

-- The full names that the refspec may mean are looked up.
pub push_looked_up-requires-clause-sought : goal.push_looked_up-requires-clause-sought
push_looked_up-requires-clause-sought c =
    subst (AreSought (sought (values c.args.self.now.prepared.now.specs.now))) (ap sought_by (sym (ap (λ p. p.1) c.new.ensures.value)))
    (sought_at value_of c.args.self.now.prepared.now.specs.now c.specs.index c.spec-item.result c.spec-item.is c.specs-test.true)
