use Rattle.std.proofs.Common.{map, drop}
use Rattle.bstr.specs.BStr.{bstr_bytes}
use Rattle.gixp_memory.proofs.TextLemmas.{NamedSoFar}
use Rattle.gixp_memory.proofs.texts.named_ids.Given as goal

abbrev pub invariant-loop-word : goal.invariant-loop-word
invariant-loop-word l = NamedSoFar (map bstr_bytes l.words) (map bstr_bytes (drop l.word-index l.words)) l.ids.items
