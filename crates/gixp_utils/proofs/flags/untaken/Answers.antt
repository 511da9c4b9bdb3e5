use Rattle.std.proofs.Common.{◌∙◌}
use Rattle.std.proofs.lemmas.Result.{IfOk-weaker}
use Rattle.gixp_utils.proofs.RepeatLemmas.{tested_all}
use Rattle.gixp_utils.proofs.flags.untaken.Goals as goal

pub returns : goal.returns
returns g c =
    IfOk-weaker c.vec.result _ _ (λ flags h. h (λ y e. e) ∙ tested_all 0 c.args.rows.now)
    c.vec.ensures.items_if_clones_equal
