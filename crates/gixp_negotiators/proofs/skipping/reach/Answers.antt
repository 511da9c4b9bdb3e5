use Rattle.std.proofs.Common.{◌≡◌, ◌+◌, ◌≤◌, ◌∷◌, [], arith, refl, true}
use Rattle.std.proofs.lemmas.List.{length-append}
use Rattle.gixp_negotiators.specs.Marks.{COMMON, SEEN, has_mark, left}
use Rattle.gixp_negotiators.specs.MarkLaws.{claimed_left, held_marked}
use Rattle.gixp_negotiators.proofs.OweLemmas.{owing_reached}
use Rattle.gixp_negotiators.specs.Spread.{was_seen}
use Rattle.gixp_negotiators.proofs.SpreadLemmas.{stays_seen, kept_none, kept_settled, newly_pushed}
use Rattle.gixp_negotiators.proofs.UnreadLemmas.{among_same, among_one}
use Rattle.gixp_negotiators.proofs.LookedLemmas.{looked_none, looked_held, looked_out}
use Rattle.gixp_negotiators.proofs.skipping.reach.Goals as goal

pub returns-clause-fits : goal.returns-clause-fits
returns-clause-fits g c lost u ws f =
    owing_reached lost u ws c.args.graph.now.graph c.add.new.graph.graph _ _ c.args.id.now c.add.ensures.grows (c.add.ensures.sees refl)
    (c.add.ensures.pops refl) c.add.ensures.marks_common_only (c.is_due.ensures.seen c.if-not-is_due.false)
    (c.is_due.ensures.open c.if-not-is_due.false) (c.add.ensures.marked (held_marked c.args.graph.now.graph c.args.id.now SEEN
    (c.is_due.ensures.seen c.if-not-is_due.false))) c.in_ok-push.ensures.items f

pub returns-then-not-is_due-clause-among : goal.returns-then-not-is_due-clause-among
returns-then-not-is_due-clause-among g c = among_same (c.args.id.now ∷ []) c.args.graph.now.graph

pub returns-clause-among : goal.returns-clause-among
returns-clause-among g c =
    among_one c.args.id.now c.args.graph.now.graph c.add.new.graph.graph (c.is_due.ensures.seen c.if-not-is_due.false)
    c.add.ensures.marks_common_only

pub returns-clause-common : goal.returns-clause-common
returns-clause-common g c s = c.add.ensures.marked (held_marked c.args.graph.now.graph c.args.id.now SEEN s)

pub returns-clause-less : goal.returns-clause-less
returns-clause-less g c =
    let after : has_mark COMMON c.add.new.graph.graph.held c.args.id.now ≡ true =
    c.add.ensures.marked (held_marked c.args.graph.now.graph c.args.id.now SEEN (c.is_due.ensures.seen c.if-not-is_due.false)) in
    let less : left COMMON c.add.new.graph.graph + 1 ≤ left COMMON c.args.graph.now.graph =
    claimed_left COMMON c.args.graph.now.graph c.add.new.graph.graph c.add.ensures.grows c.args.id.now
    (c.is_due.ensures.there c.if-not-is_due.false) (c.is_due.ensures.open c.if-not-is_due.false) after in
    rw (c.in_ok-push.ensures.items, length-append) (omega (arith, less))

pub returns-clause-spreads : goal.returns-clause-spreads
returns-clause-spreads g c =
    kept_settled was_seen stays_seen _ _ c.args.id.now _ _ c.add.ensures.grows c.add.ensures.marks_common_only c.in_ok-push.ensures.items

pub returns-clause-newly : goal.returns-clause-newly
returns-clause-newly g c f v all =
    newly_pushed f c.args.graph.now.graph c.add.new.graph.graph _ _ c.args.id.now v c.add.ensures.grows
    (c.is_due.ensures.open c.if-not-is_due.false)
    (c.add.ensures.marked (held_marked c.args.graph.now.graph c.args.id.now SEEN
    (c.is_due.ensures.seen c.if-not-is_due.false))) c.in_ok-push.ensures.items all

pub returns-then-not-is_due-clause-spreads : goal.returns-then-not-is_due-clause-spreads
returns-then-not-is_due-clause-spreads g c = kept_none was_seen stays_seen _ _

pub returns-clause-looks : goal.returns-clause-looks
returns-clause-looks g c = looked_held c.args.graph.now c.add.new.graph c.add.ensures.grows c.add.ensures.failures c.add.ensures.refusals

pub returns-clause-marks : goal.returns-clause-marks
returns-clause-marks g c = record { sees = c.add.ensures.sees refl; lists = c.add.ensures.lists refl; pops = c.add.ensures.pops refl }

pub returns-then-not-is_due-clause-looks : goal.returns-then-not-is_due-clause-looks
returns-then-not-is_due-clause-looks g c = looked_none _

pub returns-then-not-is_due-clause-marks : goal.returns-then-not-is_due-clause-marks
returns-then-not-is_due-clause-marks g c = record { sees = λ q m. m; lists = λ q m. m; pops = λ q m. m }

pub returns-in_err-push-clause-looks : goal.returns-in_err-push-clause-looks
returns-in_err-push-clause-looks g c = looked_out _ c.from_residual.ensures.1
    (looked_held c.args.graph.now c.add.new.graph c.add.ensures.grows c.add.ensures.failures c.add.ensures.refusals)
