use Rattle.std.proofs.Common.{◌∷◌, [], flat_map, drop}
use Rattle.gixp_remote_rules.specs.Quoting.{quoted_byte}
use Rattle.gixp_utils.proofs.AppendedLemmas.{Partly}
use Rattle.gixp_remote_rules.proofs.quote.quoted.Given as goal

abbrev pub invariant-loop-byte : goal.invariant-loop-byte
invariant-loop-byte l = Partly (39 ∷ []) l.text.items (flat_map quoted_byte (drop l.byte-index l.word)) (flat_map quoted_byte l.fn.word)
