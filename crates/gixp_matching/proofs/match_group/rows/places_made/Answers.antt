use Rattle.std.proofs.Common.{ℕ, List, ◌≤◌, ◌∙◌, ap, sym, subst, length, take, map, filter, arith}
use Rattle.std.specs.Borrow.{Bor}
use Rattle.std.proofs.lemmas.List.{take_all, length-map}
use Rattle.gixp_refspec.specs.Matching.{joined, rule_of}
use Rattle.gixp_matching.specs.Rows.{is_row_of, meant, has_place, HasPlaces, AreSought}
use Rattle.gixp_packetline.proofs.ListLemmas.{take-map_more}
use Rattle.gixp_matching.proofs.PlaceLemmas.{no_places, places_more, sought_front, sought_last}
use Rattle.gixp_matching.proofs.match_group.rows.places_made.Goals as goal

pub rules-init : goal.rules-init
rules-init c = λ wanted all table has place. no_places all c.new-places.result place c.new-places.ensures.empty

pub rules-preserved : goal.rules-preserved
rules-preserved c = λ wanted all table has place.
    let f : Bor (List ℕ) × Bor (List ℕ) → List ℕ = λ rule. joined c.args.short.now (rule_of rule) in
    let texts = take c.rules.front-index (map f c.args.rules.now) in
    let more = take-map_more f c.args.rules.now c.rules.front-index _ c.rules-test.true in
    let both = subst (AreSought wanted) more has in
    places_more wanted all texts _ c.args.rows.now c.rows_named-run.result.now c.rules.places c.add_places.new.places table
    (sought_last wanted texts _ both) (c.rules.invariant wanted all table (sought_front wanted texts _ both))
    (c.rows_named-run.ensures ∙ ap (λ name. filter (is_row_of name) c.args.rows.now)
    (c.as_bytes.ensures ∙ c.in_ok-name.ensures)) c.in_ok-add_places.ensures place
    ∙ ap (λ names. has_place place (meant all names)) (sym more)

pub returns : goal.returns
returns c =
    let f : Bor (List ℕ) × Bor (List ℕ) → List ℕ = λ rule. joined c.args.short.now (rule_of rule) in
    let all : length (map f c.args.rules.now) ≤ c.rules.front-index = omega (arith, length-map c.args.rules.now f) in
    subst (λ texts. HasPlaces texts c.args.rows.now c.rules.places)
    (take_all c.rules.front-index (map f c.args.rules.now) all) c.rules.invariant
