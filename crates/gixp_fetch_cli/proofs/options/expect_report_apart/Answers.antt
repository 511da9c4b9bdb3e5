use Rattle.std.proofs.Common.{◌≡◌, true, refl, rules}
use Rattle.gixp_fetch_cli.specs.CommandLine.{line_value}
use Rattle.gixp_fetch_cli.specs.Choices.{mixes_report}
use Rattle.gixp_fetch_cli.specs.Refusals.{no_report}
use Rattle.gixp_fetch_cli.proofs.options.expect_report_apart.Goals as goal

pub returns-then-not-has-2-clause-err : goal.returns-then-not-has-2-clause-err
returns-then-not-has-2-clause-err c =
    let mixed : mixes_report (line_value c.args.line.now) c.args.to.now ≡ true = search rules in
    (mixed, no_report refl refl c.args.to.now mixed)
