-- The arguments so far.
use Rattle.std.proofs.Common.{◌≡◌, ◌++◌, map, take}
use Rattle.bstr.specs.Owned.{bstring_bytes}
use Rattle.gixp_remote_rules.proofs.argv.add_all.Given as goal

abbrev pub invariant-loop-word : goal.invariant-loop-word
invariant-loop-word l = map bstring_bytes l.argv.items ≡ map bstring_bytes l.fn.argv.items ++ map bstring_bytes (take l.word-index l.more)
