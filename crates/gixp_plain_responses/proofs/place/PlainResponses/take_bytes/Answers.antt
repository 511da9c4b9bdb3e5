use Rattle.std.proofs.Common.{◌∙◌, arith, ap}
use Rattle.gixp_plain_responses.specs.Order.{is_holding, last_of}
use Rattle.gixp_plain_responses.proofs.OrderLemmas.{wanted_part, wanted_whole}
use Rattle.gixp_plain_responses.proofs.place.PlainResponses.take_bytes.Goals as goal

pub returns-then-end-limit_of-clause-bytes : goal.returns-then-end-limit_of-clause-bytes
returns-then-end-limit_of-clause-bytes g c =
    let s = c.args.self.now in
    let o = s.in_order.3 (ap is_holding c.requires.held) in
    wanted_part (g.R.Read.remaining s.reader) c.args.wanted s.next s.room.items s.start c.args.end c.requires.held o.0
    (omega (arith, s.in_order.1, c.requires.more)) (omega (arith, c.limit_of.ensures, c.if-end-limit_of.true))
    (omega (arith, s.in_order.0, o.3, ap last_of c.requires.held, c.requires.bound))

pub returns-else-end-limit_of-clause-bytes : goal.returns-else-end-limit_of-clause-bytes
returns-else-end-limit_of-clause-bytes g c =
    let s = c.args.self.now in
    let o = s.in_order.3 (ap is_holding c.requires.held) in
    c.end_wanted.ensures.bytes
    ∙ wanted_whole (g.R.Read.remaining s.reader) c.args.wanted s.room.items c.args.end c.requires.bound
    (omega (arith, c.limit_of.ensures, c.if-end-limit_of.false)) (omega (arith, s.in_order.0, o.3, ap last_of c.requires.held))
