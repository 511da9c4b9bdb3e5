use Rattle.std.proofs.Common.{sym, refl}
use Rattle.gixp_engine.proofs.AloneLemmas.{makes-unlisted, maps-by}
use Rattle.gixp_engine.proofs.session.map_by.Goals as goal

pub returns-then-needs_no_list-clause-map : goal.returns-then-needs_no_list-clause-map
returns-then-needs_no_list-clause-map g c =
    let made = c.mappings_only.ensures in
    maps-by _ _ _ _ _ _ _ _ (sym c.if-needs_no_list.true)
    (refl, makes-unlisted _ _ c.new.result _ c.new.ensures.items made.maps made.filtered made.found made.refs made.explicit made.extra)

pub returns-clause-map : goal.returns-clause-map
returns-clause-map g c = maps-by _ _ _ _ _ _ _ _ (sym c.if-needs_no_list.false) c.map_refs.ensures.map
