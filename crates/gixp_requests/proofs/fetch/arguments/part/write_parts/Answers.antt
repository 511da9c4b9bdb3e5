use Rattle.std.proofs.Common.{◌≡◌, true, ◌∙◌, sym}
use Rattle.std.specs.List.{list_all}
use Rattle.std.proofs.lemmas.List.Elements.{All-get_or}
use Rattle.std.proofs.lemmas.List.Sums.{AllPass-from_list_all}
use Rattle.gixp_transport.specs.Message.{value_fits}
use Rattle.gixp_requests.specs.Line.{part_values}
use Rattle.gixp_requests.proofs.PartLemmas.{all_of_flat}
use Rattle.gixp_requests.proofs.fetch.arguments.part.write_parts.Goals as goal

pub write_part-requires-clause-fit : goal.write_part-requires-clause-fit
write_part-requires-clause-fit g c =
    let all = AllPass-from_list_all (λ part. list_all value_fits (part_values part)) c.args.parts.now
    (sym (all_of_flat value_fits part_values c.args.parts.now) ∙ c.requires.fit) in
    rw c.part-item.is (All-get_or (λ part. list_all value_fits (part_values part) ≡ true) c.args.parts.now c.loop-part.part-index
    c.part-item.result c.loop-part-test.true all)
