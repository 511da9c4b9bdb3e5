use Rattle.std.proofs.Common.{[], ◌∷◌, Some, None, ap, sym, ◌∙◌}
use Rattle.std.specs.Option.{option_copied}
use Rattle.gixp_refspec.specs.RefSpec.{value_of}
use Rattle.gixp_matching.specs.Mappings.{FullName, mapped, is_excluded}
use Rattle.gixp_matching.proofs.NeedleLemmas.{found_is}
use Rattle.gixp_matching.proofs.PairLemmas.{unmapped_none, unmapped_excluded, mapped_some}
use Rattle.gixp_matching.proofs.match_group.single.Single.local_name.Goals as goal

pub returns-in_default : goal.returns-in_default
returns-in_default c = λ specs single i.
    let self = c.args.self.now in
    let name = c.args.full_ref_name.now in
    unmapped_none specs (self.spec_index, value_of self.spec.now) (i, name)
    (found_is self.spec.now.source.now name self.needle (option_copied c.middle.result) None single.needle c.middle.ensures
    (ap option_copied c.in_default.is))

pub returns-then-is_excluded : goal.returns-then-is_excluded
returns-then-is_excluded c = λ specs single i.
    let self = c.args.self.now in
    let name = c.args.full_ref_name.now in
    unmapped_excluded specs (self.spec_index, value_of self.spec.now) (i, name)
    (ap (λ l. is_excluded l name) (sym single.same) ∙ sym c.if-is_excluded.ensures)

pub returns : goal.returns
returns c = λ specs single i.
    let self = c.args.self.now in
    let name = c.args.full_ref_name.now in
    ap (λ local. mapped (Some i) (FullName name) local self.spec_index ∷ []) c.in_ok-local.ensures
    ∙ mapped_some specs (self.spec_index, value_of self.spec.now) (i, name) c.in-Some.middle.now
    (found_is self.spec.now.source.now name self.needle (option_copied c.middle.result) (Some c.in-Some.middle.now) single.needle
    c.middle.ensures (ap option_copied c.in-Some.is))
    self.positive (ap (λ l. is_excluded l name) (sym single.same) ∙ sym c.if-is_excluded.ensures)
