use Rattle.std.proofs.Common.{◌≡◌, ◌∙◌, true, false, arith, ap, sym, take}
use Rattle.gixp_plain_responses.specs.Order.{is_holding, is_content, first_of}
use Rattle.gixp_plain_responses.proofs.OrderLemmas.{content_after, digits_after, pack_bytes, digit_bytes, digits_steps}
use Rattle.gixp_plain_responses.proofs.place.PlainResponses.begin_line.Goals as goal

pub returns-then-is_content-clause-bytes : goal.returns-then-is_content-clause-bytes
returns-then-is_content-clause-bytes g c =
    let s = c.args.self.now in
    pack_bytes (g.R.Read.remaining s.reader) s.room.items c.write_at.new.room.items (take 4 c.deref.result.now) c.next_of-self.result
    (ap (take 4) c.deref.ensures.value) c.next_of-self.ensures (sym c.is_content.ensures ∙ c.if-is_content.true)
    (omega (arith, s.in_order.0)) c.write_at.ensures.items

pub returns-then-is_content-clause-fewer : goal.returns-then-is_content-clause-fewer
returns-then-is_content-clause-fewer g c =
    let s = c.args.self.now in
    let is : is_content c.next_of-self.result ≡ true = sym c.is_content.ensures ∙ c.if-is_content.true in
    digits_steps s.next s.start s.end _ c.requires (s.in_order.3 (ap is_holding c.requires)).1 (content_after c.next_of-self.result is).1

pub returns-else-is_content-clause-bytes : goal.returns-else-is_content-clause-bytes
returns-else-is_content-clause-bytes g c =
    let s = c.args.self.now in
    digit_bytes (g.R.Read.remaining s.reader) s.room.items (take 4 c.deref.result.now) c.next_of-self.result s.start
    ((s.in_order.3 (ap is_holding c.requires)).0 ∙ ap first_of c.requires) (ap (take 4) c.deref.ensures.value) c.next_of-self.ensures

pub returns-else-is_content-clause-fewer : goal.returns-else-is_content-clause-fewer
returns-else-is_content-clause-fewer g c =
    let s = c.args.self.now in
    let is : is_content c.next_of-self.result ≡ false = sym c.is_content.ensures ∙ c.if-is_content.false in
    let o = s.in_order.3 (ap is_holding c.requires) in
    digits_steps s.next s.start s.end _ c.requires o.1
    (digits_after s.start (take 4 c.deref.result.now) c.next_of-self.result (o.0 ∙ ap first_of c.requires) c.next_of-self.ensures is).1

pub invariant_of-self : goal.invariant_of-self
invariant_of-self g c =
    let s = c.args.self.now in
    let is : is_content c.next_of-self.result ≡ true = sym c.is_content.ensures ∙ c.if-is_content.true in
    record {
      in_order = (
        omega (arith, c.write_at.ensures.len, s.in_order.0),
        omega arith,
        omega arith,
        (content_after c.next_of-self.result is).0,
      );
    }

pub invariant_of-self-else-is_content : goal.invariant_of-self-else-is_content
invariant_of-self-else-is_content g c =
    let s = c.args.self.now in
    let is : is_content c.next_of-self.result ≡ false = sym c.is_content.ensures ∙ c.if-is_content.false in
    let o = s.in_order.3 (ap is_holding c.requires) in
    let z : s.start ≡ 0 = o.0 ∙ ap first_of c.requires in
    record {
      in_order = (
        s.in_order.0,
        omega (arith, z),
        omega arith,
        (digits_after s.start (take 4 c.deref.result.now) c.next_of-self.result z c.next_of-self.ensures is).0,
      );
    }
