-- What is shown, and what is to come.
use Rattle.std.proofs.Common.{◌≡◌, ◌++◌, drop}
use Rattle.gixp_fetch_common.specs.Sanitized.{sanitized_after}
use Rattle.gixp_fetch_common.proofs.sanitize.sanitized.Given as goal

abbrev pub invariant-loop-byte : goal.invariant-loop-byte
invariant-loop-byte l = l.text.items ++ sanitized_after l.before (drop l.byte-index l.words)
    ≡ sanitized_after 0 l.words
