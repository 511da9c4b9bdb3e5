use Rattle.std.proofs.Common.{[], ◌∷◌, ◌++◌, ◌∙◌, ap, map}
use Rattle.std.proofs.lemmas.List.{map-append}
use Rattle.gixp_refspec.specs.RefSpec.{value_of, owned_value_of}
use Rattle.gixp_packetline.proofs.ListLemmas.{appended_more}
use Rattle.gixp_refmap.proofs.refmap.make.push_specs.Goals as goal

pub specs-preserved : goal.specs-preserved
specs-preserved c =
    appended_more owned_value_of (map value_of c.args.out.now.items) (map value_of c.specs.out.items)
    (map value_of c.push.new.self.items) c.args.specs.now c.specs.spec-index c.spec-item.result
    c.specs-test.true c.specs.invariant
    (ap (map value_of) c.in_ok-push.ensures.items ∙ map-append value_of c.specs.out.items (c.to_ref.result ∷ [])
    ∙ ap (λ v. map value_of c.specs.out.items ++ v ∷ []) (c.to_ref.ensures ∙ ap owned_value_of c.spec-item.is))
