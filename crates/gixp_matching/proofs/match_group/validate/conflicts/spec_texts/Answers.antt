use Rattle.std.proofs.Common.{map}
use Rattle.bstr.specs.Owned.{bstring_bytes}
use Rattle.gixp_matching.specs.Found.{text_in}
use Rattle.gixp_matching.proofs.ListLemmas.{mapped_more}
use Rattle.gixp_matching.proofs.match_group.validate.conflicts.spec_texts.Goals as goal

pub group-preserved : goal.group-preserved
group-preserved g c =
    mapped_more (λ m. g.M.AsMapping.mapped m.now) (text_in (map bstring_bytes c.args.texts.now)) (map bstring_bytes c.group.found.items)
    (map bstring_bytes c.push_text.new.found.items)
    c.args.group.now c.group.mapping-index c.mapping-item.result c.mapping-item.is c.group-test.true c.group.invariant
    c.in_ok-push_text.ensures
