use Rattle.std.proofs.Common.{map}
use Rattle.gixp_refs.specs.Ref.{ref_value}
use Rattle.gixp_matching.specs.MatchGroup.{group_specs}
use Rattle.gixp_refmap.specs.Made.{IsMade}
use Rattle.gixp_refmap.proofs.MadeLemmas.{zip_next}
use Rattle.gixp_refmap.proofs.refmap.made.copied.Goals as goal

pub places-preserved : goal.places-preserved
places-preserved c =
    zip_next (IsMade (map ref_value c.args.refs.now) (group_specs c.args.group.now)) c.args.places.now c.places.place-index _
    c.places.made.items c.push.new.self.items c.in_ok-copied_one.field-0 c.places-test.true c.places.invariant
    c.in_ok-copied_one.ensures c.in_ok-push.ensures.items
