use Rattle.std.proofs.Common.{◌≡◌, ◌+◌, ◌∷◌, ◌++◌, [], length, subst, codes, rules}
use Rattle.std.specs.String.{string_bytes}
use Rattle.std.specs.Fmt.{decimal}
use Rattle.gixp_progress.specs.Progress.{step, set_name, ReportedCalls}
use Rattle.gixp_fetch.proofs.progress.tell_round.Goals as goal

pub returns-clause-ok : goal.returns-clause-ok
returns-clause-ok g c =
    let named : string_bytes c.in_ok-name.name ≡ codes "negotiate (round " ++ decimal (length c.args.rounds.now + 1) ++ codes ")" =
    search rules in
    subst (λ text. ReportedCalls g.P.Progress.reported c.args.progress.now (step ∷ set_name text ∷ []) c.tell_step.new.progress) named
    c.tell_step.ensures
