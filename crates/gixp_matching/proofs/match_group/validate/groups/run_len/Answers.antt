use Rattle.std.proofs.Common.{◌∙◌, ap, length}
use Rattle.std.specs.Prelude.{unwrap_or, not}
use Rattle.gixp_matching.specs.Groups.{has_number}
use Rattle.gixp_matching.proofs.GroupLemmas.{other_or_end}
use Rattle.gixp_matching.proofs.match_group.validate.groups.run_len.Goals as goal

pub returns-clause-place : goal.returns-clause-place
returns-clause-place g c =
    c.unwrap_or.ensures ∙ ap (λ o. unwrap_or o (length c.args.rows.now)) c.other_in.ensures
    ∙ other_or_end (λ row. not (has_number c.args.number row)) c.args.rows.now
