use Rattle.std.proofs.Common.{◌∙◌, ap}
use Rattle.gixp_plain_responses.specs.Order.{is_holding, first_of}
use Rattle.gixp_plain_responses.proofs.OrderLemmas.{pack_ends}
use Rattle.gixp_plain_responses.proofs.place.PlainResponses.end_pack.Goals as goal

pub returns-clause-bytes : goal.returns-clause-bytes
returns-clause-bytes g c =
    let s = c.args.self.now in
    pack_ends (g.R.Read.remaining s.reader) s.next s.room.items c.write_last-self.new.room.items s.start s.end c.write_last-self.result
    c.requires.held c.requires.end ((s.in_order.3 (ap is_holding c.requires.held)).0 ∙ ap first_of c.requires.held)
    c.write_last-self.ensures.text
