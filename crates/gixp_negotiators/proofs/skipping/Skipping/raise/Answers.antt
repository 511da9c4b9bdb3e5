use Rattle.std.proofs.Common.{◌≡◌, subst, true, false}
use Rattle.std.specs.Prelude.{nat_lt}
use Rattle.std.proofs.lemmas.Bool.{le-ltb, lt-ltb}
use Rattle.gixp_negotiators.specs.declared.skipping.Skip.{Skip}
use Rattle.gixp_negotiators.proofs.PassingLemmas.{raise_kept, raise_put}
use Rattle.gixp_negotiators.proofs.skipping.Skipping.raise.Goals as goal

pub returns-then-skip_of-skip-clause-hands : goal.returns-then-skip_of-skip-clause-hands
returns-then-skip_of-skip-clause-hands c = raise_kept c.args.self.now.skips.entries c.args.id.now c.args.skip
    (subst (λ (s : Skip). nat_lt s.whole c.args.skip.whole ≡ false) c.skip_of.ensures
    (le-ltb c.skip_of.result.whole c.args.skip.whole c.if-skip_of-skip.true))

pub returns-clause-hands : goal.returns-clause-hands
returns-clause-hands c = raise_put c.args.self.now.skips.entries c.insert.new.self.entries c.args.id.now c.args.skip
    (subst (λ (s : Skip). nat_lt s.whole c.args.skip.whole ≡ true) c.skip_of.ensures
    (lt-ltb c.skip_of.result.whole c.args.skip.whole c.if-skip_of-skip.false)) c.in_ok-insert.ensures.updates.0
