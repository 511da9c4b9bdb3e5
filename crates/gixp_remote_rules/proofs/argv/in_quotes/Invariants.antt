use Rattle.std.proofs.Common.{◌∷◌, [], flat_map, drop}
use Rattle.gixp_remote_rules.specs.Argv.{escaped_in_quotes}
use Rattle.gixp_utils.proofs.AppendedLemmas.{Partly}
use Rattle.gixp_remote_rules.proofs.argv.in_quotes.Given as goal

abbrev pub invariant-loop-byte : goal.invariant-loop-byte
invariant-loop-byte l =
    Partly (34 ∷ []) l.text.items (flat_map escaped_in_quotes (drop l.byte-index l.path))
    (flat_map escaped_in_quotes l.fn.path)
