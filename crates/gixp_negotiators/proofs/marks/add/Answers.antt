use Rattle.std.proofs.Common.{◌≡◌, subst, sym, true}
use Rattle.gixp_graph.specs.GraphData.{GraphData}
use Rattle.gixp_negotiators.specs.Marks.{COMMON, COMMON_REF, SEEN, POPPED, has_mark}
use Rattle.gixp_negotiators.specs.AddedMarks.{Grows, SeesNone, SeesOnly, MarksNoCommon, MarksCommonOnly, ListsNone, ListsOnly, PopsNone, PopsOnly}
use Rattle.gixp_negotiators.specs.MarkLaws.{grows_left}
use Rattle.gixp_negotiators.proofs.GrowLemmas.{grows_flagged, has_flagged, only_flagged, none_flagged}
use Rattle.gixp_negotiators.proofs.marks.add.Goals as goal

pub returns-clause-grows : goal.returns-clause-grows
returns-clause-grows g c = subst (Grows c.args.graph.now.graph) (sym c.insert_flags.ensures.flagged)
    (grows_flagged c.args.graph.now.graph c.args.id.now c.args.marks c.requires)

pub returns-clause-sees : goal.returns-clause-sees
returns-clause-sees g c apart = subst (SeesNone c.args.graph.now.graph) (sym c.insert_flags.ensures.flagged)
    (none_flagged SEEN c.args.graph.now.graph c.args.id.now c.args.marks apart)

pub returns-clause-sees_only : goal.returns-clause-sees_only
returns-clause-sees_only g c = subst (SeesOnly c.args.id.now c.args.graph.now.graph) (sym c.insert_flags.ensures.flagged)
    (only_flagged SEEN c.args.graph.now.graph c.args.id.now c.args.marks)

pub returns-clause-marked : goal.returns-clause-marked
returns-clause-marked g c s = subst (λ (k : GraphData). has_mark c.args.marks.0 k.held c.args.id.now ≡ true)
    (sym c.insert_flags.ensures.flagged) (has_flagged c.args.graph.now.graph.held c.args.id.now c.args.marks s)

pub returns-clause-seen : goal.returns-clause-seen
returns-clause-seen g c = grows_left SEEN c.args.graph.now.graph c.insert_flags.new.self.graph (subst (Grows c.args.graph.now.graph)
    (sym c.insert_flags.ensures.flagged) (grows_flagged c.args.graph.now.graph c.args.id.now c.args.marks c.requires))

pub returns-clause-common : goal.returns-clause-common
returns-clause-common g c = grows_left COMMON c.args.graph.now.graph c.insert_flags.new.self.graph (subst (Grows c.args.graph.now.graph)
    (sym c.insert_flags.ensures.flagged) (grows_flagged c.args.graph.now.graph c.args.id.now c.args.marks c.requires))

pub returns-clause-settles : goal.returns-clause-settles
returns-clause-settles g c apart = subst (MarksNoCommon c.args.graph.now.graph) (sym c.insert_flags.ensures.flagged)
    (none_flagged COMMON c.args.graph.now.graph c.args.id.now c.args.marks apart)

pub returns-clause-marks_common_only : goal.returns-clause-marks_common_only
returns-clause-marks_common_only g c = subst (MarksCommonOnly c.args.id.now c.args.graph.now.graph) (sym c.insert_flags.ensures.flagged)
    (only_flagged COMMON c.args.graph.now.graph c.args.id.now c.args.marks)

pub returns-clause-lists : goal.returns-clause-lists
returns-clause-lists g c apart = subst (ListsNone c.args.graph.now.graph) (sym c.insert_flags.ensures.flagged)
    (none_flagged COMMON_REF c.args.graph.now.graph c.args.id.now c.args.marks apart)

pub returns-clause-lists_only : goal.returns-clause-lists_only
returns-clause-lists_only g c = subst (ListsOnly c.args.id.now c.args.graph.now.graph) (sym c.insert_flags.ensures.flagged)
    (only_flagged COMMON_REF c.args.graph.now.graph c.args.id.now c.args.marks)

pub returns-clause-pops : goal.returns-clause-pops
returns-clause-pops g c apart = subst (PopsNone c.args.graph.now.graph) (sym c.insert_flags.ensures.flagged)
    (none_flagged POPPED c.args.graph.now.graph c.args.id.now c.args.marks apart)

pub returns-clause-pops_only : goal.returns-clause-pops_only
returns-clause-pops_only g c = subst (PopsOnly c.args.id.now c.args.graph.now.graph) (sym c.insert_flags.ensures.flagged)
    (only_flagged POPPED c.args.graph.now.graph c.args.id.now c.args.marks)
