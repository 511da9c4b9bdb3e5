use Rattle.std.specs.Prelude.{slice_range}
use Rattle.std.proofs.lemmas.List.{take-append-le, take_all}
use Rattle.std.proofs.Common.{◌≡◌, ◌+◌, ◌++◌, arith, length, take, drop, ap, sym, ◌∙◌}
use Rattle.gixp_plain_requests.proofs.AdvertisementLemmas.{gives_named, range_parts, range_length}
use Rattle.gixp_plain_requests.proofs.named.NamedCapabilities.give.Goals as goal

pub returns-clause-given : goal.returns-clause-given
returns-clause-given g c =
    let s = c.args.self.now in
    let n = c.min-count.result in
    let copied = c.copy_from_slice.new.self in
    let is : copied ≡ slice_range s.room.items s.start (s.start + n) =
    c.copy_from_slice.ensures.after ∙ ap (λ r. slice_range r s.start (s.start + n)) c.deref.ensures.value in
    let len : length copied ≡ n = ap length is ∙ range_length s.room.items s.start n (omega (arith, s.in_order.0)) in
    let front : take n (copied ++ drop n c.args.buf.now) ≡ slice_range s.room.items s.start (s.start + n) =
    take-append-le n copied (drop n c.args.buf.now) (omega (arith, len)) ∙ (take_all n copied (omega (arith, len)) ∙ is) in
    rw c.requires.named (gives_named (g.R.Read.remaining s.reader) _ _ _
    (range_parts s.room.items s.start n s.end (omega arith) ∙ ap (λ xs. xs ++ slice_range s.room.items (s.start + n) s.end) (sym front)))
