use Rattle.bstr.specs.Owned.{bstring_bytes}
use Rattle.gixp_remote_rules.specs.ShellRequests.{marked_line}
use Rattle.gixp_utils.proofs.AppendedLemmas.{left-at, each-more}
use Rattle.gixp_remote_rules.proofs.shell_request.append_lines.Goals as goal

pub loop-word-preserved : goal.loop-word-preserved
loop-word-preserved c =
    each-more (λ w. marked_line c.args.mark (bstring_bytes w)) _ _ _ _ _ c.word-item.result _ c.loop-word.invariant
    (left-at c.args.argv.now c.loop-word.word-index c.word-item.result c.loop-word-test.true c.word-item.is)
    c.in_ok-append_own_line.ensures
