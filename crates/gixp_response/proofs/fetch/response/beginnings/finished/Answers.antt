-- The elements whose flag is true name each commit once.
use Rattle.std.proofs.Common.{ap, ◌∙◌, length}
use Rattle.gixp_response.specs.RepeatedCommons.{flagged}
use Rattle.gixp_response.proofs.CommonLemmas.{flagged_once, length_tested}
use Rattle.gixp_response.proofs.fetch.response.beginnings.finished.Goals as goal

pub keep_flagged-requires : goal.keep_flagged-requires
keep_flagged-requires c =
    ap length (c.deref.ensures.value ∙ c.into_flags-flags.ensures c.args.answer.acknowledgements c.requires)
    ∙ length_tested _ 0 c.args.answer.acknowledgements

pub returns : goal.returns
returns c =
    c.keep_flagged.ensures
    ∙ ap (λ flags. record c.args.answer { acknowledgements = flagged c.args.answer.acknowledgements flags })
    (c.deref.ensures.value ∙ c.into_flags-flags.ensures c.args.answer.acknowledgements c.requires)
    ∙ ap (λ acks. record c.args.answer { acknowledgements = acks }) (flagged_once c.args.answer.acknowledgements)
