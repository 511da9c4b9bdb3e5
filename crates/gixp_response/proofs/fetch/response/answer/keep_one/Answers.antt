-- An element whose flag is true follows the kept ones; another one is skipped.
use Rattle.std.proofs.Common.{◌∙◌, ◌++◌, ◌∷◌, ap, sym, take, drop}
use Rattle.gixp_response.specs.RepeatedCommons.{flagged}
use Rattle.gixp_response.proofs.CommonLemmas.{one_kept, one_passed}
use Rattle.gixp_response.proofs.fetch.response.answer.keep_one.Goals as goal

pub returns-clause-kept : goal.returns-clause-kept
returns-clause-kept c flags =
    let before = c.args.found.now.items in
    one_kept before c.args.kept c.args.at c.index.result.now flags c.requires.within.0 c.requires.within.1 c.index.ensures
    ∙ ap (λ flag. take c.args.kept before ++ flagged (drop c.args.at before) (flag ∷ flags)) (sym c.if-not-flag.false)

pub returns-then-not-flag-clause-kept : goal.returns-then-not-flag-clause-kept
returns-then-not-flag-clause-kept c flags =
    let before = c.args.found.now.items in
    ap (λ ys. take c.args.kept before ++ ys) (one_passed before c.args.at flags c.requires.within.1)
    ∙ ap (λ flag. take c.args.kept before ++ flagged (drop c.args.at before) (flag ∷ flags)) (sym c.if-not-flag.true)
