use Rattle.std.proofs.Common.{refl}
use Rattle.gixp_negotiators.specs.MarkLaws.{grows_left}
use Rattle.gixp_negotiators.proofs.LookLemmas.{grows_looked, held_looked, found_looked, missing_looked, none_looked, absent_looked, timed_looked}
use Rattle.gixp_negotiators.specs.Marks.{COMMON, COMMON_REF, SEEN, POPPED}
use Rattle.gixp_negotiators.specs.AddedMarks.{Grows}
use Rattle.gixp_negotiators.proofs.LookedLemmas.{looked_lookup}
use Rattle.gixp_negotiators.proofs.marks.look.Goals as goal

pub returns-clause-found : goal.returns-clause-found
returns-clause-found g c =
    found_looked c.args.graph.now.graph c.lookup.new.self.graph c.args.id.now c.in_ok-lookup.field-0 c.in_ok-lookup.ensures.found
    c.in_ok-lookup.ensures.time
    c.in_ok-lookup.ensures.ok

pub returns-clause-none : goal.returns-clause-none
returns-clause-none g c = missing_looked c.args.graph.now.graph c.args.id.now c.in_ok-lookup.field-0 c.in_ok-lookup.ensures.time

pub returns-clause-looks : goal.returns-clause-looks
returns-clause-looks g c =
    let w : Grows c.args.graph.now.graph c.lookup.new.self.graph =
    grows_looked c.args.graph.now.graph c.lookup.new.self.graph c.args.id.now c.in_ok-lookup.ensures.ok in
    record {
      grows = w;
      seen = grows_left SEEN c.args.graph.now.graph c.lookup.new.self.graph w;
      common = grows_left COMMON c.args.graph.now.graph c.lookup.new.self.graph w;
      failures = c.lookup.ensures.failures;
      failed = tt;
      unrefused = c.in_ok-lookup.ensures.unrefused;
      refused = tt;
    }

pub returns-clause-sees : goal.returns-clause-sees
returns-clause-sees g c = none_looked SEEN refl c.args.graph.now.graph c.lookup.new.self.graph c.args.id.now c.in_ok-lookup.ensures.ok

pub returns-clause-absent : goal.returns-clause-absent
returns-clause-absent g c =
    absent_looked c.args.graph.now.graph c.lookup.new.self.graph c.args.id.now c.in_ok-lookup.field-0 c.in_ok-lookup.ensures.found
    c.in_ok-lookup.ensures.ok

pub returns-clause-timed : goal.returns-clause-timed
returns-clause-timed g c = timed_looked c.args.graph.now.graph c.args.id.now c.in_ok-lookup.field-0 c.in_ok-lookup.ensures.time

pub returns-clause-settles : goal.returns-clause-settles
returns-clause-settles g c = none_looked COMMON refl c.args.graph.now.graph c.lookup.new.self.graph c.args.id.now c.in_ok-lookup.ensures.ok

pub returns-clause-pops : goal.returns-clause-pops
returns-clause-pops g c = none_looked POPPED refl c.args.graph.now.graph c.lookup.new.self.graph c.args.id.now c.in_ok-lookup.ensures.ok

pub returns-clause-lists : goal.returns-clause-lists
returns-clause-lists g c = none_looked COMMON_REF refl c.args.graph.now.graph c.lookup.new.self.graph c.args.id.now
    c.in_ok-lookup.ensures.ok

pub returns-clause-held : goal.returns-clause-held
returns-clause-held g c = held_looked c.args.graph.now.graph c.lookup.new.self.graph c.args.id.now c.in_ok-lookup.ensures.ok

pub returns-clause-marks : goal.returns-clause-marks
returns-clause-marks g c b z = none_looked b z c.args.graph.now.graph c.lookup.new.self.graph c.args.id.now c.in_ok-lookup.ensures.ok

pub returns-in_err-lookup-clause-looks : goal.returns-in_err-lookup-clause-looks
returns-in_err-lookup-clause-looks g c =
    looked_lookup c.in_err-lookup.field-0.0 _ c.from_residual.ensures.1 c.in_err-lookup.ensures.err c.lookup.ensures.failures
    c.in_err-lookup.ensures.failed c.in_err-lookup.ensures.refused
