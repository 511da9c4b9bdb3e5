use Rattle.std.proofs.Common.{◌∙◌, ◌++◌, ap, sym, append-nil}
use Rattle.std.specs.List.{flat_map}
use Rattle.gixp_matching.specs.Places.{places_in, pair_places}
use Rattle.gixp_matching.specs.Rows.{numbered_value}
use Rattle.gixp_matching.specs.MatchGroup.{values, name_of}
use Rattle.gixp_matching.proofs.PlaceLemmas.{no_ref, one_ref}
use Rattle.gixp_matching.proofs.RowLemmas.{on_ok}
use Rattle.gixp_matching.proofs.match_group.pairs.Matching.push_at.Goals as goal

pub returns-in-None : goal.returns-in-None
returns-in-None c =
    let f = pair_places (values c.args.self.now.prepared.now.specs.now) (numbered_value c.args.numbered.now) in
    let none = no_ref name_of c.args.self.now.items.now c.args.place c.in-None.ensures.lookup.3 in
    sym (ap (λ l. places_in c.args.out.now ++ flat_map f l) none ∙ append-nil (places_in c.args.out.now))

pub returns-in-Some : goal.returns-in-Some
returns-in-Some c =
    let f = pair_places (values c.args.self.now.prepared.now.specs.now) (numbered_value c.args.numbered.now) in
    let one =
    one_ref name_of c.args.self.now.items.now c.args.place c.in-Some.item.now c.in-Some.ensures.lookup.3.0
    c.in-Some.ensures.lookup.1 in
    on_ok c.push_pair.result _ _
    (λ step. step
    ∙ ap (λ l. places_in c.args.out.now ++ l)
    (ap (λ n. f (c.args.place, n)) c.as_bytes-name.ensures ∙ sym (append-nil (f (c.args.place, name_of c.in-Some.item.now)))
    ∙ sym (ap (flat_map f) one)))
    c.push_pair.ensures
