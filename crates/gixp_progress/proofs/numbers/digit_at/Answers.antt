use Rattle.std.proofs.Common.{◌∙◌, ap}
use Rattle.std.specs.Prelude.{unwrap_or, length}
use Rattle.gixp_progress.specs.Numbers.{is_digit}
use Rattle.gixp_progress.proofs.PlaceLemmas.{unwrap_or-position}
use Rattle.gixp_progress.proofs.numbers.digit_at.Goals as goal

pub returns-clause-place : goal.returns-clause-place
returns-clause-place c =
    c.unwrap_or.ensures ∙ ap (λ o. unwrap_or o (length c.args.text.now)) c.digit_in.ensures ∙ unwrap_or-position is_digit c.args.text.now
