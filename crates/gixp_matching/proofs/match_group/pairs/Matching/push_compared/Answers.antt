use Rattle.std.proofs.Common.{◌∙◌, ◌++◌, ap, sym}
use Rattle.gixp_matching.specs.Places.{places_in, pair_places}
use Rattle.gixp_matching.specs.Rows.{numbered_value}
use Rattle.gixp_matching.specs.MatchGroup.{values, names, name_of}
use Rattle.gixp_matching.proofs.RowLemmas.{negative_placed}
use Rattle.gixp_matching.proofs.WalkLemmas.{walked}
use Rattle.gixp_matching.proofs.match_group.pairs.Matching.push_compared.Goals as goal

pub items-preserved : goal.items-preserved
items-preserved c =
    let f = pair_places (values c.args.self.now.prepared.now.specs.now) (numbered_value c.args.numbered.now) in
    walked name_of f _ (places_in c.items.out) (places_in c.push_pair.new.out)
    c.args.self.now.items.now c.items.place _ c.items-test.true c.items.invariant
    (c.in_ok-push_pair.ensures ∙ ap (λ n. places_in c.items.out ++ f (c.items.place, n)) c.as_bytes-name.ensures)

-- A negative refspec maps no refs.
pub returns-then-is_negative : goal.returns-then-is_negative
returns-then-is_negative c = negative_placed (values c.args.self.now.prepared.now.specs.now) (names c.args.self.now.items.now)
    (numbered_value c.args.numbered.now) (places_in c.args.out.now) (sym c.if-is_negative.ensures)
