-- The value so far, and the text that remains.
use Rattle.std.proofs.Common.{◌≡◌, [], length}
use Rattle.gixp_remote_rules.specs.CQuoting.{unquoted_after}
use Rattle.gixp_remote_rules.specs.declared.unquote.Part.TheVariants.{Plain}
use Rattle.gixp_remote_rules.proofs.unquote.unquoted.Given as goal

abbrev pub invariant-bytes : goal.invariant-bytes
invariant-bytes l = unquoted_after [] Plain l.fn.text ≡ unquoted_after l.value.items l.part l.rest

abbrev pub decreases-bytes : goal.decreases-bytes
decreases-bytes l = length l.rest
