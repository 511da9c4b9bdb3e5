use Rattle.std.proofs.Common.{[], ◌∷◌, map, ap, ◌∙◌}
use Rattle.std.proofs.lemmas.List.{map-append}
use Rattle.gixp_refs.specs.Ref.{ref_value}
use Rattle.gixp_refmap.proofs.CloneLemmas.{copied_more}
use Rattle.gixp_refmap.proofs.refmap.map.copied_refs.Goals as goal

pub refs-preserved : goal.refs-preserved
refs-preserved c =
    copied_more ref_value (map ref_value c.refs.copy.items)
    (map ref_value c.push.new.self.items) c.args.refs.now.items c.deref-found-items.result.now
    c.refs.found-index c.found-item.result
    (ref_value c.in_ok-one.one) c.deref-found-items.ensures.value c.found-item.is c.refs-test.true c.refs.invariant
    (ap (map ref_value) c.in_ok-push.ensures.items ∙ map-append ref_value c.refs.copy.items (c.in_ok-one.one ∷ [])) c.in_ok-one.ensures
