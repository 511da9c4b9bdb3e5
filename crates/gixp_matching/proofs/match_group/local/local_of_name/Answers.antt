use Rattle.std.proofs.Common.{◌∙◌, sym, ap, Some, None}
use Rattle.std.specs.Option.{option_copied, option_map}
use Rattle.std.proofs.lemmas.Result.{IfOk-weaker}
use Rattle.gixp_refspec.specs.RefSpec.{value_of}
use Rattle.gixp_matching.specs.Mappings.{FullName}
use Rattle.gixp_matching.specs.Places.{local_after, local_for}
use Rattle.gixp_matching.proofs.NeedleLemmas.{found_is}
use Rattle.gixp_matching.proofs.match_group.local.local_of_name.Goals as goal

pub returns-in-None : goal.returns-in-None
returns-in-None c =
    let name = c.args.full_ref_name.now in
    let s = value_of c.in-Some.spec.now in
    sym (ap (λ o. local_for (option_map value_of (option_copied o)) (FullName name)) c.in-Some.is
    ∙ ap (local_after s) (found_is s.source name c.new.result (option_copied c.middle.result) None c.new.ensures c.middle.ensures
    (ap option_copied c.in-None.is)))

pub returns-in-Some-middle : goal.returns-in-Some-middle
returns-in-Some-middle c =
    let name = c.args.full_ref_name.now in
    let s = value_of c.in-Some.spec.now in
    IfOk-weaker c.local_of.result _ _
    (λ local h. h ∙ sym (ap (λ o. local_for (option_map value_of (option_copied o)) (FullName name)) c.in-Some.is
    ∙ ap (local_after s) (found_is s.source name c.new.result (option_copied c.middle.result) (Some c.in-Some-middle.middle.now)
    c.new.ensures c.middle.ensures (ap option_copied c.in-Some-middle.is))))
    c.local_of.ensures
