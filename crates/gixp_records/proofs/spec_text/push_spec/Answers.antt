use Rattle.std.proofs.Common.{◌==◌, ◌∙◌, ap, sym, map, length, [], ◌∷◌}
use Rattle.std.proofs.lemmas.List.{map-append}
use Rattle.bstr.specs.BStr.{bstr_bytes}
use Rattle.gixp_refspec.specs.RefSpec.{value_of}
use Rattle.gixp_records.proofs.SpecTextLemmas.{spec-line}
use Rattle.gixp_records.proofs.spec_text.push_spec.Goals as goal

pub returns-in-Ok-push : goal.returns-in-Ok-push
returns-in-Ok-push c = (
  value_of c.in-Ok.spec ∷ [],
  spec-line (bstr_bytes c.args.line) (value_of c.in-Ok.spec)
      (ap (λ l. length l == 0) (sym c.as_bytes.ensures) ∙ sym c.is_empty.ensures ∙ c.if-is_empty.false) c.in-Ok.ensures,
  ap (map value_of) c.in-Ok-push.ensures.items ∙ map-append value_of c.args.specs.now.items (c.in-Ok.spec ∷ []),
)
