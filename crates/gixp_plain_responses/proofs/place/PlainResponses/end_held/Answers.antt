use Rattle.std.proofs.Common.{◌∙◌, sym}
use Rattle.gixp_plain_responses.proofs.OrderLemmas.{content_next}
use Rattle.gixp_plain_responses.proofs.place.PlainResponses.end_held.Goals as goal

pub end_pack-requires-clause-held : goal.end_pack-requires-clause-held
end_pack-requires-clause-held g c = content_next c.args.self.now.next (sym c.is_content.ensures ∙ c.if-is_content.true)
