use Rattle.std.proofs.Common.{◌≡◌, true, false, codes, ap, sym, is_some}
use Rattle.gixp_shallow.specs.Shallow.{shallow_value}
use Rattle.gixp_fetch_cli.specs.CommandLine.{line_value}
use Rattle.gixp_fetch_cli.specs.Choices.{has}
use Rattle.gixp_fetch_cli.proofs.OptionLemmas.{by_all, cut_ok}
use Rattle.gixp_fetch_cli.proofs.history.shallow_of.Goals as goal

pub returns-then-has-clause-ok : goal.returns-then-has-clause-ok
returns-then-has-clause-ok c =
    let there : has (line_value c.args.line.now) (codes "--unshallow") ≡ true = cc in
    by_all (line_value c.args.line.now) (shallow_value c.undo.result) c.in_default.ensures.none there c.undo.ensures

pub returns-clause-ok : goal.returns-clause-ok
returns-clause-ok c =
    let unshallow : has (line_value c.args.line.now) (codes "--unshallow") ≡ false = cc in
    let depth : has (line_value c.args.line.now) (codes "--depth") ≡ false = sym (ap is_some c.in_default-value.ensures) in
    let deepen : has (line_value c.args.line.now) (codes "--deepen") ≡ false = sym (ap is_some c.in_default-value-2.ensures) in
    cut_ok (line_value c.args.line.now) c.cut.result c.in_default.ensures.none depth deepen unshallow c.cut.ensures.ok
