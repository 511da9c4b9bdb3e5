use Rattle.std.proofs.Common.{◌≡◌, map, take}
use Rattle.bstr.specs.Owned.{bstring_bytes}
use Rattle.gixp_remote_session.proofs.pack.plan.copy_argv.Given as goal

abbrev pub invariant-loop-word : goal.invariant-loop-word
invariant-loop-word l = map bstring_bytes l.all.items ≡ map bstring_bytes (take l.word-index l.argv)
