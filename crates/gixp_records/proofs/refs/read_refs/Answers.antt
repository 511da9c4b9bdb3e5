use Rattle.std.proofs.Common.{◌≡◌, ◌+◌, ◌<◌, [], ◌∷◌, ◌++◌, length, take, drop, slice_set, sym, ap, subst, ◌∙◌, arith}
use Rattle.std.proofs.lemmas.List.{take_more_set, drop-set-lt, drop-drop, map_push}
use Rattle.std.proofs.lemmas.List.Elements.{All-push, All-same}
use Rattle.gixp_records.specs.Refs.{ref_in, refs_in, IsRecordWithin, AreLinesTo}
use Rattle.gixp_records.proofs.RefsLemmas.{lines_more, reads_stop}
use Rattle.gixp_records.proofs.refs.read_refs.Goals as goal

pub returns-in-Ok-Stop : goal.returns-in-Ok-Stop
returns-in-Ok-Stop c =
    let received = rw c.in-Ok-Stop.field-0-is at c.in-Ok-Stop.ensures in
    reads_stop c.args.bytes.now c.args.from c.loop-count.at c.in-Ok-Stop.next c.loop-count.count c.args.records.now
    c.loop-count.records received.0 (omega arith) c.loop-count.invariant.rest c.loop-count.invariant.within
    c.loop-count.invariant.so_far received.1 received.2

pub loop-count-preserved : goal.loop-count-preserved
loop-count-preserved c =
    let bytes = c.args.bytes.now in
    let old = c.args.records.now in
    let now = c.loop-count.records in
    let i = c.loop-count.count in
    let r = c.in-Ok-Ref.record in
    let so = c.loop-count.invariant in
    let received = rw c.in-Ok-Ref.field-0-is at c.in-Ok-Ref.ensures in
    let under : i < length now = omega arith in
    let first : take (i + 1) (slice_set now i r) ≡ take i now ++ r ∷ [] = take_more_set now i r under in
    let values = ap (refs_in bytes) first ∙ map_push (ref_in bytes) (take i now) r in
    let step : i < i + 1 = omega arith in
    let last : drop (i + 1) (slice_set now i r) ≡ drop (i + 1) now = drop-set-lt (i + 1) now i r step in
    record {
      so_far =
          subst (AreLinesTo bytes c.args.from c.in-Ok-Ref.next) (sym values)
          (lines_more bytes c.args.from c.loop-count.at c.in-Ok-Ref.next (refs_in bytes (take i now)) received.0 (ref_in bytes r) so.so_far
          received.1 received.2 received.4);
      rest = last ∙ sym (drop-drop 1 i now) ∙ ap (drop 1) so.rest ∙ drop-drop 1 i old;
      within = All-same (IsRecordWithin bytes) _ _ first (All-push (IsRecordWithin bytes) (take i now) r so.within received.3);
    }
