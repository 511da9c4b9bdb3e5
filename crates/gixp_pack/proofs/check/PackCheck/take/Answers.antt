use Rattle.std.proofs.Common.{◌≡◌, ◌-◌, ◌++◌, length, take, drop, ap, sym, ◌∙◌}
use Rattle.gixp_pack.proofs.TakenLemmas.{hashed_more, last_more, header_more, count_more, to_end}
use Rattle.gixp_pack.proofs.check.PackCheck.take.Goals as goal

pub returns-clause-taken : goal.returns-clause-taken
returns-clause-taken c = λ m h.
    let all : c.in_ok-all.all.items ≡ drop (length m - 20) m ++ c.args.piece.now = c.in_ok-all.ensures
    ∙ ap (λ x. x ++ c.args.piece.now) (c.deref.ensures.value ∙ h.last) in
    let ready : c.saturating_sub-ready.result ≡ length (drop (length m - 20) m ++ c.args.piece.now) - 20 =
    c.saturating_sub-ready.ensures ∙ ap (λ n. n - 20)
    (c.len.ensures ∙ (sym c.deref-2.ensures.len ∙ ap length (c.deref-2.ensures.value ∙ all))) in
    record {
      hashed =
          let more = c.update.ensures _ h.hashed in
          let shown : c.deref-4.result.now ≡ drop (length m - 20) m ++ c.args.piece.now = c.deref-4.ensures.value ∙ all in
          rw (hashed_more m c.args.piece.now, ← ready, ← shown) more;
      header = rw (header_more m c.args.piece.now, ← h.header)
          (c.in_ok-header.ensures ∙ ap (λ x. x ++ take (12 - length x) c.args.piece.now) c.deref-3.ensures.value);
      last =
          rw (last_more m c.args.piece.now, ← ready, ← all)
          (c.in_ok-last.ensures.items ∙ (to_end c.saturating_sub-ready.result c.deref-2.result.now
          ∙ ap (λ x. drop c.saturating_sub-ready.result x) c.deref-2.ensures.value));
      bytes = c.saturating_add-self.ensures ∙ rw h.bytes (count_more m c.args.piece.now);
    }
