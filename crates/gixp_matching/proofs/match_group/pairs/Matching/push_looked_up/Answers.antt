use Rattle.std.proofs.Common.{◌∙◌, ◌++◌, ap, sym, subst}
use Rattle.std.specs.List.{flat_map}
use Rattle.gixp_refspec.specs.Needle.{IsNeedle}
use Rattle.gixp_matching.specs.Places.{places_in, pair_places}
use Rattle.gixp_matching.specs.Rows.{numbered_value, ref_at}
use Rattle.gixp_matching.specs.MatchGroup.{values, names}
use Rattle.gixp_matching.proofs.PlaceLemmas.{short_placed}
use Rattle.gixp_matching.proofs.RowLemmas.{on_ok, negative_placed, id_placed, exact_placed}
use Rattle.gixp_matching.proofs.match_group.pairs.Matching.push_looked_up.Goals as goal

pub returns-then-is_negative : goal.returns-then-is_negative
returns-then-is_negative c = negative_placed (values c.args.self.now.prepared.now.specs.now) (names c.args.self.now.items.now)
    (numbered_value c.args.numbered.now) (places_in c.args.out.now) (sym c.if-is_negative.ensures)

pub returns-in-Id : goal.returns-in-Id
returns-in-Id c = id_placed (values c.args.self.now.prepared.now.specs.now) (names c.args.self.now.items.now)
    (numbered_value c.args.numbered.now) (places_in c.args.out.now)
    (subst (IsNeedle c.args.numbered.now.spec.now.source.now) c.in-Id.is c.requires.needle)

pub returns-in-Exact : goal.returns-in-Exact
returns-in-Exact c =
    on_ok c.push_rows.result _ _ (λ step. exact_placed (values c.args.self.now.prepared.now.specs.now) _ (names c.args.self.now.items.now)
    (numbered_value c.args.numbered.now) c.in-Exact.name
    c.args.table.now c.rows_named-run.result.now (places_in c.args.out.now) (places_in c.push_rows.new.out)
    (subst (IsNeedle c.args.numbered.now.spec.now.source.now) c.in-Exact.is c.requires.needle) (sym c.if-is_negative.ensures)
    c.requires.table c.requires.sought c.rows_named-run.ensures step) c.push_rows.ensures

pub returns-in_ok-places-in-Short : goal.returns-in_ok-places-in-Short
returns-in_ok-places-in-Short c =
    let f = pair_places (values c.args.self.now.prepared.now.specs.now) (numbered_value c.args.numbered.now) in
    on_ok c.push_places.result _ _ (λ step. short_placed (values c.args.self.now.prepared.now.specs.now) _
    (names c.args.self.now.items.now) (numbered_value c.args.numbered.now) c.in-Short.name
    c.args.table.now c.in_ok-places-in-Short.places.items (places_in c.args.out.now) (places_in c.push_places.new.out)
    (subst (IsNeedle c.args.numbered.now.spec.now.source.now) c.in-Short.is c.requires.needle) (sym c.if-is_negative.ensures)
    c.requires.table c.requires.sought c.in_ok-places-in-Short.ensures
    (step ∙ ap (λ l. places_in c.args.out.now ++ flat_map
    (λ place. flat_map f (ref_at (names c.args.self.now.items.now) place)) l) c.deref.ensures.value)) c.push_places.ensures
