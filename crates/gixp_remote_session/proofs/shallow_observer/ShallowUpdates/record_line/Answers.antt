-- The update in the line is recorded.
use Rattle.std.proofs.Common.{refl, subst}
use Rattle.gixp_remote_session.specs.ShallowLines.{RecordsLine}
use Rattle.gixp_remote_session.proofs.shallow_observer.ShallowUpdates.record_line.Goals as goal

pub returns-in-None : goal.returns-in-None
returns-in-None c = subst (λ u. RecordsLine u c.args.self.now c.args.self.now) c.in-None.ensures refl

pub returns-in-Some : goal.returns-in-Some
returns-in-Some c = subst (λ u. RecordsLine u c.args.self.now c.record_update.new.self) c.in-Some.ensures c.record_update.ensures
