use Rattle.bstr.specs.BStr.{bstr_bytes}
use Rattle.gixp_memory.specs.Repository.{ref_line}
use Rattle.gixp_memory.proofs.TextLemmas.{ReadSoFar}
use Rattle.gixp_memory.proofs.stored_refs.StoredRefs.read_refs.Given as goal

abbrev pub invariant-loop-line : goal.invariant-loop-line
invariant-loop-line l = ReadSoFar ref_line bstr_bytes l.line-items l.fn.self l.line-index l.number l.self
