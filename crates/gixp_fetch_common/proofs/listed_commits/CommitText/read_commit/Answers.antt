-- A line that is no commit is refused by its number.
use Rattle.std.proofs.Common.{◌∙◌, inr, sym, ap, subst, rules}
use Rattle.gixp_fetch_common.specs.ListedCommits.{IsNoCommit, line_number}
use Rattle.gixp_fetch_common.proofs.listed_commits.CommitText.read_commit.Goals as goal

pub returns-in-Ok-None-clause-fails : goal.returns-in-Ok-None-clause-fails
returns-in-Ok-None-clause-fails g c =
    let none : IsNoCommit c.add_line.new.self.line.items = search rules in
    inr (rw c.refuse-in-Ok-None.ensures.refusal (
      c.refuse-in-Ok-None.ensures.reported,
      c.line_number-number.ensures ∙ sym (ap line_number c.refuse-in-Ok-None.ensures.left),
      subst (λ l. IsNoCommit l.items) (sym c.refuse-in-Ok-None.ensures.line) none,
    ))
