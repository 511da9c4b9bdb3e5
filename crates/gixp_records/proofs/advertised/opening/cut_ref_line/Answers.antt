use Rattle.std.proofs.Common.{refl, sym, ap, ◌∙◌, Some, length}
use Rattle.gixp_capabilities.specs.Capabilities.{capabilities_of_words}
use Rattle.gixp_records.specs.Span.{text_at}
use Rattle.gixp_records.proofs.SpanLemmas.{length-text_at}
use Rattle.gixp_records.proofs.OpeningLemmas.{cut_capabilities}
use Rattle.gixp_records.proofs.advertised.opening.cut_ref_line.Goals as goal

pub returns-in-Some : goal.returns-in-Some
returns-in-Some c =
    let bytes = c.args.bytes.now in
    let front = c.cut_at-following.result.0 in
    let whole = rw c.in-Some.is at c.cut_at-following.ensures.parts in
    let size = length-text_at bytes front.at front.len c.cut_at-following.ensures.first in
    record {
      same_version = refl;
      place = refl;
      found =
          cut_capabilities (text_at bytes c.args.line) (text_at bytes front) (text_at bytes c.in-Some.text) whole
          ∙ ap (λ t. Some (capabilities_of_words t, length (text_at bytes front))) (sym c.without_line_end.ensures.text)
          ∙ ap (λ n. Some (capabilities_of_words (text_at bytes c.without_line_end.result), n)) size;
      within = c.without_line_end.ensures.within;
    }
