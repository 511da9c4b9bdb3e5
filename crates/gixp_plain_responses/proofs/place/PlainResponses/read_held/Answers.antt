use Rattle.std.proofs.Common.{◌≡◌, ◌+◌, ◌-◌, ◌∙◌, arith, ap, sym, subst, length, take, drop, length-drop}
use Rattle.std.proofs.lemmas.List.{length-take-le}
use Rattle.std.proofs.lemmas.Result.{err_from_is_err_and}
use Rattle.std.specs.Prelude.{slice_range}
use Rattle.std.specs.Io.KnownBytes.{Keeps}
use Rattle.gixp_plain_responses.specs.Order.{is_holding, first_of, last_of}
use Rattle.gixp_plain_responses.specs.Translation.{to_come}
use Rattle.gixp_plain_responses.proofs.GivenLemmas.{takes_held, after_held, front_same, length-range}
use Rattle.gixp_plain_responses.proofs.OrderLemmas.{limit_is, reads_none, reads_failed, ends_later}
use Rattle.gixp_plain_responses.proofs.place.PlainResponses.read_held.Goals as goal

pub returns-then-count-gt0 : goal.returns-then-count-gt0
returns-then-count-gt0 g c =
    let s = c.args.self.now in
    let w = c.args.wanted in
    let n = c.in_ok-count.count in
    let new = c.read_into.new.room.items in
    let o = s.in_order.3 (ap is_holding c.requires) in
    let z = o.0 ∙ ap first_of c.requires in
    let last = ap last_of c.requires in
    let l = limit_is w in
    let received = c.in_ok-count.ensures in
    let held : length (slice_range s.room.items s.start s.end) ≡ s.end - s.start =
    length-range s.room.items s.start s.end s.in_order.1 (omega (arith, s.in_order.0, s.in_order.2)) in
    let got : length (take n (drop s.end new)) ≡ n = length-take-le n (drop s.end new)
    (omega (arith, length-drop s.end new, received.len, received.bytes.0, c.limit_of-limit.ensures, s.in_order.0, o.3, last)) in (
      subst (λ x. Keeps (to_come g.R.Read.remaining s) x) (sym c.take_bytes.ensures.bytes)
          (rw c.requires (takes_held (g.R.Read.remaining s.reader) (g.R.Read.remaining c.read_into.new.reader) w
          (slice_range s.room.items s.start s.end) (take n (drop s.end new)) _ received.bytes.1
          (omega (arith, held, got, received.bytes.0, c.limit_of-limit.ensures, l, z, s.in_order.1))
          (omega (arith, held, l, z, o.1, last, s.in_order.1))
          (ap (λ m. slice_range new m (s.end + n)) (sym z) ∙ after_held s.room.items new s.start s.end n s.in_order.1 received.front))),
      c.take_bytes.ensures.fewer,
    )

pub returns : goal.returns
returns g c =
    let s = c.args.self.now in
    let n = c.in_ok-count.count in
    let new = c.read_into.new.room.items in
    let received = c.in_ok-count.ensures in
    let zero : n ≡ 0 = omega (arith, c.if-count-gt0.false) in
    ends_later _ _ _ _ _ _ (reads_none (g.R.Read.remaining s.reader) (g.R.Read.remaining c.read_into.new.reader) s.next
    (slice_range s.room.items s.start s.end) (slice_range new s.start s.end) (take n (drop s.end new)) received.bytes.1
    (ap (λ k. take k (drop s.end new)) zero) (front_same s.room.items new s.start s.end s.in_order.1 received.front)) c.end_held.ensures

pub returns-in_err-count : goal.returns-in_err-count
returns-in_err-count g c =
    let s = c.args.self.now in
    let failed = reads_failed (g.R.Read.remaining s.reader) (g.R.Read.remaining c.read_into.new.reader) s.next
    (slice_range s.room.items s.start s.end) (slice_range c.read_into.new.room.items s.start s.end) c.in_err-count.ensures.bytes
    (front_same s.room.items c.read_into.new.room.items s.start s.end s.in_order.1 c.in_err-count.ensures.front) in
    let p = err_from_is_err_and c.from_residual.result c.from_residual.ensures.1 in
    rw p.1 failed
