use Rattle.std.proofs.Common.{◌≡◌, ◌∙◌, ◌-◌, arith, ap, sym, take, drop}
use Rattle.gixp_plain_responses.specs.Order.{is_holding, first_of, last_of}
use Rattle.gixp_plain_responses.proofs.OrderLemmas.{common_bytes, line_bytes, payload_steps, steps_rest}
use Rattle.gixp_plain_responses.proofs.place.PlainResponses.end_line.Goals as goal

pub returns-then-is_continue-clause-bytes : goal.returns-then-is_continue-clause-bytes
returns-then-is_continue-clause-bytes g c =
    let s = c.args.self.now in
    let size = c.args.size in
    let o = s.in_order.3 (ap is_holding c.requires) in
    let size_is = ap last_of c.requires in
    common_bytes (g.R.Read.remaining s.reader) s.room.items c.write_common.new.room.items (take (size - 4) (drop 4 c.deref.result.now))
    s.start size (o.0 ∙ ap first_of c.requires) (omega (arith, o.2, size_is)) (omega (arith, o.3, size_is, s.in_order.0))
    (ap (λ r. take (size - 4) (drop 4 r)) c.deref.ensures.value) (sym c.is_continue.ensures ∙ c.if-is_continue.true)
    c.write_common.ensures.text

pub returns-then-is_continue-clause-fewer : goal.returns-then-is_continue-clause-fewer
returns-then-is_continue-clause-fewer g c =
    let s = c.args.self.now in
    let o = s.in_order.3 (ap is_holding c.requires) in
    let z : s.start ≡ 0 = o.0 ∙ ap first_of c.requires in
    payload_steps s.start 56 _ (omega (arith, z)) (steps_rest s.next s.start s.end (ap is_holding c.requires) (omega (arith, o.1, o.3)))

pub returns-else-is_continue-clause-bytes : goal.returns-else-is_continue-clause-bytes
returns-else-is_continue-clause-bytes g c =
    let s = c.args.self.now in
    let size = c.args.size in
    let o = s.in_order.3 (ap is_holding c.requires) in
    let size_is = ap last_of c.requires in
    line_bytes (g.R.Read.remaining s.reader) s.room.items (take (size - 4) (drop 4 c.deref.result.now)) s.start size
    (o.0 ∙ ap first_of c.requires) (omega (arith, o.2, size_is))
    (ap (λ r. take (size - 4) (drop 4 r)) c.deref.ensures.value) (sym c.is_continue.ensures ∙ c.if-is_continue.false)

pub returns-else-is_continue-clause-fewer : goal.returns-else-is_continue-clause-fewer
returns-else-is_continue-clause-fewer g c =
    let s = c.args.self.now in
    let o = s.in_order.3 (ap is_holding c.requires) in
    let z : s.start ≡ 0 = o.0 ∙ ap first_of c.requires in
    payload_steps s.start c.args.size _ (omega (arith, z, o.2, ap last_of c.requires))
    (steps_rest s.next s.start s.end (ap is_holding c.requires) (omega (arith, o.1, o.3)))
