use Rattle.std.proofs.Common.{◌≡◌, ◌≤◌, ◌<◌, ◌+◌, ◌-◌, ◌∙◌, arith, ap, sym, subst, length, take, drop, length-drop}
use Rattle.std.proofs.lemmas.List.{length-take-le}
use Rattle.std.specs.Prelude.{slice_range}
use Rattle.std.specs.Io.KnownBytes.{Keeps}
use Rattle.gixp_packfile_uris.specs.Order.{is_holding, size_held}
use Rattle.gixp_packfile_uris.specs.Parts.{to_come, refused_of}
use Rattle.gixp_packfile_uris.specs.Sink.{SameKnown}
use Rattle.gixp_packfile_uris.proofs.PartsLemmas.{first_range, takes_held, takes_lines, takes_refusal, following_held, same_same}
use Rattle.gixp_packfile_uris.proofs.place.PackfileUris.read_held.Goals as goal

pub returns-then-count-gt0-clause-bytes : goal.returns-then-count-gt0-clause-bytes
returns-then-count-gt0-clause-bytes g c =
    let s = c.args.self.now in
    let n = c.in_ok-count.count in
    let new = c.read_into.new.room.items in
    let o = s.in_order.4 (ap is_holding c.requires) in
    let size_is = ap size_held c.requires in
    let received = c.in_ok-count.ensures in
    let front = first_range s.room.items s.start s.end o.0 in
    let held : length (slice_range s.room.items s.start s.end) ≡ s.end =
    ap length front ∙ length-take-le s.end s.room.items (omega (arith, s.in_order.0, s.in_order.2)) in
    let got : length (take n (drop s.end new)) ≡ n = length-take-le n (drop s.end new)
    (omega (arith, length-drop s.end new, received.len, received.bytes.0, s.in_order.0, o.3, size_is)) in (
      subst (λ x. Keeps (to_come g.R.Read.remaining s) x) (sym c.take_bytes.ensures.bytes)
          (rw c.requires (takes_held (g.R.Read.remaining s.reader) (g.R.Read.remaining c.read_into.new.reader) s.place c.args.size
          (slice_range s.room.items s.start s.end) (take n (drop s.end new)) _ received.bytes.1
          (omega (arith, held, got, received.bytes.0)) (omega (arith, held, o.1, size_is))
          (following_held s.room.items new s.start s.end n o.0 received.front))),
      c.take_bytes.ensures.fewer,
    )

pub returns-then-count-gt0-clause-lines : goal.returns-then-count-gt0-clause-lines
returns-then-count-gt0-clause-lines g c =
    let s = c.args.self.now in
    let n = c.in_ok-count.count in
    let new = c.read_into.new.room.items in
    let o = s.in_order.4 (ap is_holding c.requires) in
    let size_is = ap size_held c.requires in
    let received = c.in_ok-count.ensures in
    let front = first_range s.room.items s.start s.end o.0 in
    let held : length (slice_range s.room.items s.start s.end) ≡ s.end =
    ap length front ∙ length-take-le s.end s.room.items (omega (arith, s.in_order.0, s.in_order.2)) in
    let got : length (take n (drop s.end new)) ≡ n = length-take-le n (drop s.end new)
    (omega (arith, length-drop s.end new, received.len, received.bytes.0, s.in_order.0, o.3, size_is)) in
    same_same _ _ _
    (rw c.requires (takes_lines (g.S.UriSink.lines s.sink) (g.R.Read.remaining s.reader) (g.R.Read.remaining c.read_into.new.reader) s.place
    c.args.size (slice_range s.room.items s.start s.end) (take n (drop s.end new)) _ received.bytes.1
    (omega (arith, held, got, received.bytes.0)) (omega (arith, held, o.1, size_is))
    (following_held s.room.items new s.start s.end n o.0 received.front))) c.take_bytes.ensures.lines

pub returns-then-count-gt0-clause-refusal : goal.returns-then-count-gt0-clause-refusal
returns-then-count-gt0-clause-refusal g c =
    let s = c.args.self.now in
    let n = c.in_ok-count.count in
    let new = c.read_into.new.room.items in
    let o = s.in_order.4 (ap is_holding c.requires) in
    let size_is = ap size_held c.requires in
    let received = c.in_ok-count.ensures in
    let front = first_range s.room.items s.start s.end o.0 in
    let held : length (slice_range s.room.items s.start s.end) ≡ s.end =
    ap length front ∙ length-take-le s.end s.room.items (omega (arith, s.in_order.0, s.in_order.2)) in
    let got : length (take n (drop s.end new)) ≡ n = length-take-le n (drop s.end new)
    (omega (arith, length-drop s.end new, received.len, received.bytes.0, s.in_order.0, o.3, size_is)) in
    subst (λ x. SameKnown (refused_of g.R.Read.remaining s) x) (sym c.take_bytes.ensures.refusal)
    (rw c.requires (takes_refusal (g.R.Read.remaining s.reader) (g.R.Read.remaining c.read_into.new.reader) s.place c.args.size
    (slice_range s.room.items s.start s.end) (take n (drop s.end new)) _ received.bytes.1
    (omega (arith, held, got, received.bytes.0)) (omega (arith, held, o.1, size_is))
    (following_held s.room.items new s.start s.end n o.0 received.front)))
