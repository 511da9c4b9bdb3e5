use Rattle.std.proofs.Common.{map, sym, ap, ◌∙◌, arith}
use Rattle.std.specs.Option.{option_map}
use Rattle.std.proofs.lemmas.List.{map_push}
use Rattle.std.proofs.lemmas.List.Elements.{All-push, All-same}
use Rattle.gixp_refs.specs.RefAdvertisement.{in_front}
use Rattle.gixp_records.specs.Span.{text_at}
use Rattle.gixp_records.specs.V1RecordLine.{symref_at, IsSymrefWithin}
use Rattle.gixp_records.proofs.SpanLemmas.{length-text_at}
use Rattle.gixp_records.proofs.SymrefSpanLemmas.{symrefs_left, symref_more, symref_other, symref_empty, symref_bad, span_less}
use Rattle.gixp_records.proofs.advertised.symrefs.read_symrefs.Goals as goal

pub returns-in-Err-clause-value : goal.returns-in-Err-clause-value
returns-in-Err-clause-value c =
    let bytes = c.args.bytes.now in
    let word = c.cut_at-others.result.0 in
    let size = length-text_at bytes word.at word.len c.cut_at-others.ensures.first in
    let some = c.if-word-ne0.true in
    symref_bad _ (map (symref_at bytes) c.loop-rest.found.items) (text_at bytes c.in-Some.text) (text_at bytes word)
    (option_map (text_at bytes) c.cut_at-others.result.1) c.in-Err.e (rw c.in-Some.is at c.loop-rest.invariant.so_far)
    c.cut_at-others.ensures.parts (λ z. omega arith) c.in-Err.ensures.value

pub loop-rest-smaller-in-Ok : goal.loop-rest-smaller-in-Ok
loop-rest-smaller-in-Ok c =
    let within = rw c.in-Some.is at c.loop-rest.invariant.rest in
    rw c.in-Some.is (span_less c.args.bytes.now c.in-Some.text _ c.cut_at-others.result.1 within c.cut_at-others.ensures.rest
    c.cut_at-others.ensures.parts)

pub loop-rest-smaller-in-Ok-None : goal.loop-rest-smaller-in-Ok-None
loop-rest-smaller-in-Ok-None c =
    let within = rw c.in-Some.is at c.loop-rest.invariant.rest in
    rw c.in-Some.is (span_less c.args.bytes.now c.in-Some.text _ c.cut_at-others.result.1 within c.cut_at-others.ensures.rest
    c.cut_at-others.ensures.parts)

pub loop-rest-smaller : goal.loop-rest-smaller
loop-rest-smaller c =
    let within = rw c.in-Some.is at c.loop-rest.invariant.rest in
    rw c.in-Some.is (span_less c.args.bytes.now c.in-Some.text _ c.cut_at-others.result.1 within c.cut_at-others.ensures.rest
    c.cut_at-others.ensures.parts)

pub loop-rest-preserved-in-Ok : goal.loop-rest-preserved-in-Ok
loop-rest-preserved-in-Ok c =
    let bytes = c.args.bytes.now in
    let word = c.cut_at-others.result.0 in
    let size = length-text_at bytes word.at word.len c.cut_at-others.ensures.first in
    let some = c.if-word-ne0.true in
    let old = c.loop-rest.found.items in
    let symref = c.in-Ok-Some.symref in
    let made = ap (map (symref_at bytes)) c.in-Ok.ensures.items ∙ map_push (symref_at bytes) old symref in
    record {
      so_far =
          symref_more _ (map (symref_at bytes) old) (text_at bytes c.in-Some.text) (text_at bytes word)
          (option_map (text_at bytes) c.cut_at-others.result.1) (symref_at bytes symref)
          (rw c.in-Some.is at c.loop-rest.invariant.so_far) c.cut_at-others.ensures.parts (λ z. omega arith)
          (rw c.in-Ok-Some.field-0-is at c.in-Ok-Some.ensures.value)
          ∙ ap (λ m. in_front m (symrefs_left (option_map (text_at bytes) c.cut_at-others.result.1))) (sym made);
      rest = c.cut_at-others.ensures.rest;
      within = All-same (IsSymrefWithin bytes) _ _ c.in-Ok.ensures.items (All-push (IsSymrefWithin bytes) old symref
          c.loop-rest.invariant.within (rw c.in-Ok-Some.field-0-is at c.in-Ok-Some.ensures.within));
    }

pub loop-rest-preserved-in-Ok-None : goal.loop-rest-preserved-in-Ok-None
loop-rest-preserved-in-Ok-None c =
    let bytes = c.args.bytes.now in
    let word = c.cut_at-others.result.0 in
    let size = length-text_at bytes word.at word.len c.cut_at-others.ensures.first in
    let some = c.if-word-ne0.true in
    record {
      so_far =
          symref_other _ (map (symref_at bytes) c.loop-rest.found.items) (text_at bytes c.in-Some.text) (text_at bytes word)
          (option_map (text_at bytes) c.cut_at-others.result.1) (rw c.in-Some.is at c.loop-rest.invariant.so_far)
          c.cut_at-others.ensures.parts (λ z. omega arith) (rw c.in-Ok-None.field-0-is at c.in-Ok-None.ensures.value);
      rest = c.cut_at-others.ensures.rest;
      within = c.loop-rest.invariant.within;
    }

pub loop-rest-preserved : goal.loop-rest-preserved
loop-rest-preserved c =
    let bytes = c.args.bytes.now in
    let word = c.cut_at-others.result.0 in
    let size = length-text_at bytes word.at word.len c.cut_at-others.ensures.first in
    let none = c.if-word-ne0.false in
    record {
      so_far =
          symref_empty _ (map (symref_at bytes) c.loop-rest.found.items) (text_at bytes c.in-Some.text) (text_at bytes word)
          (option_map (text_at bytes) c.cut_at-others.result.1) (rw c.in-Some.is at c.loop-rest.invariant.so_far)
          c.cut_at-others.ensures.parts (omega arith);
      rest = c.cut_at-others.ensures.rest;
      within = c.loop-rest.invariant.within;
    }
