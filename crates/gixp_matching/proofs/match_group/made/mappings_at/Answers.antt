use Rattle.std.proofs.Common.{[], ◌++◌, ◌∙◌, ap}
use Rattle.std.specs.Prelude.{option_to_list}
use Rattle.gixp_matching.specs.MatchGroup.{mapped_in, names, group_specs}
use Rattle.gixp_matching.specs.Places.{place_value, made_at}
use Rattle.gixp_matching.proofs.ListLemmas.{gathered_after}
use Rattle.gixp_matching.proofs.match_group.made.mappings_at.Goals as goal

pub places-preserved : goal.places-preserved
places-preserved c =
    gathered_after place_value (λ place. option_to_list (made_at (group_specs c.args.group.now) (names c.args.items.now) place)) []
    (mapped_in c.places.made) (mapped_in c.push_found.new.out) c.args.places.now c.places.place-index _ c.places-test.true
    c.places.invariant (c.in_ok-push_found.ensures ∙ ap (λ o. mapped_in c.places.made ++ option_to_list o) c.in_ok-found.ensures)
