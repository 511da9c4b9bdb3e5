use Rattle.std.proofs.Common.{◌≡◌, map, take}
use Rattle.bstr.specs.Owned.{bstring_bytes}
use Rattle.gix_protocol.specs.PartialName.{name_bytes}
use Rattle.gixp_remote_session.proofs.history.names_of.Given as goal

abbrev pub invariant-loop-word : goal.invariant-loop-word
invariant-loop-word l = map name_bytes l.names.items ≡ map bstring_bytes (take l.word-index l.excluded)
