use Rattle.std.proofs.Common.{◌∷◌, [], ◌++◌, ◌∙◌, ap, map}
use Rattle.std.proofs.lemmas.List.{map-append}
use Rattle.bstr.specs.Owned.{bstring_bytes}
use Rattle.gixp_refspec.specs.RefSpec.{value_of}
use Rattle.gixp_refspec.specs.Spec.{text_of}
use Rattle.gixp_matching.proofs.ListLemmas.{mapped_more}
use Rattle.gixp_matching.proofs.match_group.validate.conflicts.texts_of.Goals as goal

pub specs-preserved : goal.specs-preserved
specs-preserved c =
    mapped_more value_of text_of (map bstring_bytes c.specs.found.items) (map bstring_bytes c.push.new.self.items)
    c.args.specs.now c.specs.spec-index c.spec-item.result c.spec-item.is c.specs-test.true c.specs.invariant
    (ap (map bstring_bytes) c.in_ok-push.ensures.items ∙ map-append bstring_bytes c.specs.found.items (c.in_ok-to_bstring.field-0 ∷ [])
    ∙ ap (λ t. map bstring_bytes c.specs.found.items ++ t ∷ []) c.in_ok-to_bstring.ensures.text)
