-- The objects so far, and the lines that remain.
use Rattle.std.proofs.Common.{map, drop}
use Rattle.bstr.specs.BStr.{bstr_bytes}
use Rattle.gixp_remote_session.proofs.ListedLemmas.{ListedSoFar}
use Rattle.gixp_remote_session.proofs.repository.listed_objects.Given as goal

abbrev pub invariant-lines : goal.invariant-lines
invariant-lines l = ListedSoFar (map bstr_bytes l.line-items) (map bstr_bytes (drop l.line-index l.line-items)) l.listed.items
