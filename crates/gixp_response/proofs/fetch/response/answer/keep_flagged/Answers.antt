use Rattle.std.proofs.Common.{◌∙◌, ◌++◌, ap, sym, take, drop}
use Rattle.gixp_response.specs.RepeatedCommons.{flagged}
use Rattle.gixp_response.proofs.CommonLemmas.{drop_one}
use Rattle.gixp_response.proofs.fetch.response.answer.keep_flagged.Goals as goal

pub flags-preserved : goal.flags-preserved
flags-preserved c = (
  c.keep_one-kept.ensures.len ∙ c.flags.invariant.0,
  c.keep_one-kept.ensures.within,
  c.keep_one-kept.ensures.kept _
      ∙ ap (λ flags. take c.flags.kept c.flags.found.items ++ flagged (drop c.flags.at c.flags.found.items) flags)
      (sym (drop_one c.args.flags.now c.flags.at _ c.flags-test.true))
      ∙ c.flags.invariant.2,
)
