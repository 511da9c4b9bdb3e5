use Rattle.bstr.specs.BStr.{bstr_bytes}
use Rattle.gixp_memory.specs.Repository.{commit_line}
use Rattle.gixp_memory.proofs.TextLemmas.{ReadSoFar}
use Rattle.gixp_memory.proofs.stored_objects.StoredObjects.read_commits.Given as goal

abbrev pub invariant-loop-line : goal.invariant-loop-line
invariant-loop-line l = ReadSoFar commit_line bstr_bytes l.line-items l.fn.self l.line-index l.number l.self
