use Rattle.std.proofs.Common.{◌∙◌, ap}
use Rattle.std.specs.Prelude.{unwrap_or, length}
use Rattle.gixp_progress.specs.Numbers.{is_other}
use Rattle.gixp_progress.proofs.PlaceLemmas.{unwrap_or-position}
use Rattle.gixp_progress.proofs.numbers.other_at.Goals as goal

pub returns-clause-place : goal.returns-clause-place
returns-clause-place c =
    c.unwrap_or.ensures ∙ ap (λ o. unwrap_or o (length c.args.text.now)) c.other_in.ensures ∙ unwrap_or-position is_other c.args.text.now
