use Rattle.gixp_remote_rules.specs.ShellRequests.{escaped_byte}
use Rattle.gixp_utils.proofs.AppendedLemmas.{left-byte, each-more}
use Rattle.gixp_remote_rules.proofs.shell_request.append_escaped.Goals as goal

pub loop-byte-preserved : goal.loop-byte-preserved
loop-byte-preserved c =
    each-more escaped_byte _ _ _ _ _ _ _ c.loop-byte.invariant
    (left-byte c.args.word.now c.loop-byte.byte-index c.loop-byte-test.true) c.in_ok-append_escaped_byte.ensures
