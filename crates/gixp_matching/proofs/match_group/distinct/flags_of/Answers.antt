use Rattle.std.proofs.Common.{◌∙◌, ap, sym, map}
use Rattle.gixp_matching.specs.Apart.{key_parts, parts}
use Rattle.gixp_matching.specs.Digest.{with_digest, number_parts}
use Rattle.gixp_matching.specs.Placed.{placed_from}
use Rattle.gixp_matching.proofs.DigestLemmas.{numbered_eq, by_number, numbered_tied, numbered_same}
use Rattle.gixp_matching.proofs.ListLemmas.{map_of_map}
use Rattle.gixp_matching.proofs.PlacedLemmas.{rows_apart, flags_are_first}
use Rattle.gixp_matching.proofs.match_group.distinct.flags_of.Goals as goal

pub first_flags-requires : goal.first_flags-requires
first_flags-requires g c = rows_apart number_parts c.in_ok-rows.rows.items _ c.in_ok-rows.ensures

pub returns : goal.returns
returns g c =
    let ms = map g.M.AsMapping.mapped c.args.mappings.now in
    c.in_ok-flags.ensures
    ∙ flags_are_first by_number numbered_eq number_parts (λ m. with_digest (parts m)) numbered_tied numbered_same
    c.in_ok-rows.rows.items ms
    (c.in_ok-rows.ensures ∙ ap (placed_from 0) (ap (map (λ key. with_digest (key_parts key))) c.deref.ensures.value
    ∙ sym (map_of_map with_digest key_parts c.in_ok-keys.keys.items) ∙ ap (map with_digest) c.in_ok-keys.ensures
    ∙ map_of_map with_digest parts ms))
